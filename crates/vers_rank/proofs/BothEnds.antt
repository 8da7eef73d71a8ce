-- The items of the iterators over an indexed list.
use Rattle.vers_rank.proofs.Names.{◌≡◌, ℕ, ◌<◌, Bool, true, false, List, Some, length, get_or, map, refl, sym, ap, cases_Bool, arith, ◌∙◌, slice_get, bit_value, positions, length-positions, yields_first, goes_first, length-bits, bit_item, select}
use Rattle.std.proofs.lemmas.Option.{slice_get-get_or}
use mir.Val.{bool_byte}
use Rattle.vers_rank.proofs.Reading.{no_reading}
use Rattle.vers_rank.proofs.ReadingBack.{no_reading_back}

-- ---- items that are bits, as numbers
pub number_item : (bits : List Bool) (p x : ℕ) (at : Bool) → p < length (map bit_value bits) → x ≡ bool_byte at → at ≡ get_or bits p false → slice_get (map bit_value bits) p ≡ Some x
number_item bits p x at h number is = bit_item bits p x h (grind (arith, number, is, cases_Bool at))

-- ---- items that are the positions of a bit
pub position_item : (b : Bool) (bits : List Bool) (r x : ℕ) → r < length (positions b bits) → x ≡ select b bits r → slice_get (positions b bits) r ≡ Some x
unfolding select
position_item b bits r x h is = slice_get-get_or (positions b bits) r (length bits) h ∙ ap Some (sym is)

pub ruleset bits = (length-bits, number_item)

pub ruleset kinds = (length-positions, position_item, no_reading, no_reading_back)

-- `next`
pub ruleset ends = (yields_first, goes_first)
