-- Occurrences of a symbol from a position on, and symbols of another width.
use Rattle.vers_wavelet.proofs.Names.{◌≡◌, ◌≢◌, ℕ, ◌≤◌, List, length, eqb, slice_get, Option, None, refl, if◌then◌else◌, arith, eq-eqb, ne_eqb, slice_get_past, occurrences}
use Rattle.vers_wavelet.proofs.Lists.{no_positions}
use Rattle.vers_wavelet.proofs.Ranges.{narrow_word, wide_word}

-- from the end on a symbol has no occurrence
pub select_past : (items : List ℕ) (o r s : ℕ) → length items ≤ o → slice_get (occurrences items o (length items) s) r ≡ None
select_past items o r s past = slice_get_past (occurrences items o (length items) s) r (omega (arith, no_positions items o (length items) s past))

-- what is found of a symbol, by whether it has the list's width
pub same_width : (k width : ℕ) (found : Option ℕ) → k ≡ width → (if eqb k width then found else None) ≡ found
same_width k width found same = rw (eq-eqb k width same) refl

pub other_width : (k width : ℕ) (found : Option ℕ) → k ≢ width → (if eqb k width then found else None) ≡ None
other_width k width found other = rw (ne_eqb k width other) refl

pub ruleset selects = (select_past, same_width, other_width, narrow_word, wide_word)
