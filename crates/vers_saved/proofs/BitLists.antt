-- Saved forms of lists of bits.
use Rattle.vers_saved.proofs.Names.{◌≡◌, ℕ, ◌-◌, ◌*◌, ◌≤◌, Bool, true, false, List, length, take, refl, sym, ap, subst, ◌∙◌, arith, limbs, limb_count, pack, length-limbs, Kind, BIT_LISTS, item_bits, in_order, EndsPadded, IsWhole, may_be_saved}
use Rattle.vers_saved.proofs.Rows.{one_padded, padded_one}
use Rattle.vers_saved.proofs.RoundTrips.{flat_count}
use Rattle.vers_saved.proofs.Shapes.{bounds_are, flat_words, within_bounds}
use Rattle.vers_saved.proofs.LimbLists.{length-pack, length-first, limbs-first, limbs_fit, limbs_padded}

-- the bits that words hold are no fewer than are kept, and no more than a list may have
pub kept : (n len : ℕ) (bits : List Bool) → n ≡ length bits → len ≤ length bits → take (length bits - (n - len)) bits ≡ take len bits
kept n len bits e h = let same : length bits - (n - len) ≡ len = omega arith in ap (λ m. take m bits) same

pub ruleset cuts = (kept, length-pack, length-first)

-- the limbs of the bits that whole words hold are the words
pub limbs_of_whole : (kind : Kind) (count width len : ℕ) (words : List ℕ) (v : List Bool) → kind.by_levels ≡ false → IsWhole kind count width words → len ≡ count * item_bits kind width → v ≡ take len (pack words 64)
    → limbs v ≡ words
limbs_of_whole kind count width len words v flat whole all is =
    let counted : length words ≡ limb_count (count * item_bits kind width) = flat_count kind count width words whole flat in
    let padded : EndsPadded (count * item_bits kind width) words = padded_one (count * item_bits kind width) words (rw flat at whole.padded) in
    rw (is, all) (limbs-first words (count * item_bits kind width) counted whole.fit padded)

-- the limbs of bits are whole as those of a kind with no order
pub whole_bits : (kind : Kind) (count width : ℕ) (bits : List Bool) → kind.by_levels ≡ false → may_be_saved kind count width ≡ true → length bits ≡ count * item_bits kind width
    → in_order kind.order (limbs bits) ≡ true → IsWhole kind count width (limbs bits)
whole_bits kind count width bits flat may all ordered = record {
  may = may;
  counted = length-limbs bits ∙ ap limb_count all ∙ sym (flat_words kind count width flat);
  fit = limbs_fit bits;
  padded = rw flat (one_padded (count * item_bits kind width) (limbs bits) (subst (λ n. EndsPadded n (limbs bits)) all (limbs_padded bits)));
  ordered = ordered;
}

pub whole_limbs : (bits : List Bool) → length bits ≤ 18446744073709551552 → IsWhole BIT_LISTS (length bits) 1 (limbs bits)
whole_limbs bits small =
    whole_bits BIT_LISTS (length bits) 1 bits refl (within_bounds BIT_LISTS (length bits) 1 refl (omega (arith, small))) (omega arith) refl

pub of_one_width : (count width : ℕ) (words : List ℕ) → IsWhole BIT_LISTS count width words → 1 ≡ width
of_one_width count width words whole = let b = bounds_are BIT_LISTS count width words refl whole in omega (arith, b.0, b.1)

pub ruleset bits = (whole_limbs, of_one_width)
