-- The positions right beside one, which a search finds by their bits alone.
use Rattle.vers_trees.proofs.Names.{◌≡◌, ◌↔◌, ℕ, ◌+◌, ◌-◌, ◌<◌, ◌≤◌, Bool, true, false, List, length, get_or, not, nat_eq, ℤ, FitsSigned, to_z, of_z, Some, arith, neg_ℤ, pos, negsuc, ◌-ℤ◌, refl, w64, IsTrue, ints, to_z-of_z, eqb-true, excess, first_rise_after, last_rise_before, bit_step, enclosing, count, count_both}
pub use Rattle.vers_trees.proofs.searches.Searches.{after_some, after_is, before_some, before_is, before_past}
use Rattle.vers_trees.proofs.searches.Scans.{step_fits, bit_is, fits_small}

-- ---- right after
pub right_after : (l : List Bool) (i : ℕ) (r d : ℤ) (b : Bool) → FitsSigned w64 r → i + 1 < length l → b ≡ get_or l (i + 1) false → d ≡ bit_step b → IsTrue (nat_eq (of_z w64 d) (of_z w64 r)) ↔ (first_rise_after l i r ≡ Some (i + 1))
right_after l i r d b f h e q =
    let s = bit_is l (i + 1) (i + 1 + 1) b d refl h e q in grind (arith, ints, to_z-of_z, eqb-true, step_fits, after_is, after_some)

-- ---- right before
pub right_before : (l : List Bool) (i : ℕ) (r d : ℤ) (b : Bool) → FitsSigned w64 r → 0 < i → i < length l → b ≡ get_or l (i - 1) false → d ≡ bit_step (not b) → IsTrue (nat_eq (of_z w64 d) (of_z w64 r)) ↔ (last_rise_before l i r ≡ Some (i - 1))
right_before l i r d b f some h e q =
    let up = bit_is l (i - 1) i b (bit_step b) (omega arith) (omega arith) e refl in grind (arith, to_z-of_z, eqb-true, step_fits, before_is, before_some)

-- ---- what the queries of a tree answer, in the words of the code
pub enclosing_open : (l : List Bool) (i : ℕ) → get_or l i false ≡ true → last_rise_before l i (negsuc 0) ≡ enclosing l i
unfolding enclosing
enclosing_open l i e = rw e refl

pub enclosing_close : (l : List Bool) (i : ℕ) → get_or l i false ≡ false → last_rise_before l i (negsuc 1) ≡ enclosing l i
unfolding enclosing
enclosing_close l i e = rw e refl

-- the ones among the first i bits, and the rest of them as zeros
pub few_ones : (l : List Bool) (i n : ℕ) → n ≡ count true l i → n ≤ i
few_ones l i n e = omega (arith, count_both l i)

-- a number below 2 ^ 63 is the same with a sign
pub small_number : (n : ℕ) → n < 9223372036854775808 → FitsSigned w64 (pos n)
small_number n h = fits_small (pos n) (omega (arith, ints)) (omega (arith, ints))

pub with_sign : (n : ℕ) → n < 9223372036854775808 → to_z w64 n ≡ pos n
with_sign n h = to_z-of_z w64 (pos n) (small_number n h)

-- the ones less the rest are the excess
pub difference_is : (l : List Bool) (i n : ℕ) → length l < 9223372036854775808 → i ≤ length l → n ≡ count true l i → FitsSigned w64 (to_z w64 n -ℤ to_z w64 (i - n)) × (to_z w64 n -ℤ to_z w64 (i - n) ≡ excess l i)
unfolding excess
difference_is l i n short h e = grind (arith, few_ones, with_sign, fits_small, count_both)

-- its negative
pub negated : (n : ℕ) → n < 9223372036854775808 → FitsSigned w64 (pos 0 -ℤ to_z w64 n) × (to_z w64 (of_z w64 (pos 0 -ℤ to_z w64 n)) ≡ neg_ℤ (pos n))
negated n h = grind (arith, fits_small, with_sign, to_z-of_z)
