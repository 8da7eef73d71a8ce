-- Sets of numbers of 64 bits.
use Rattle.vers_c.proofs.Names.{arith, below, false, length, true, ◌+◌, ◌-◌, ◌<◌, ◌≤◌}
use Rattle.std.proofs.Common.{◌≡◌, ℕ, Bool, List, inl, inr, sym, ◌∙◌}
use Rattle.std.specs.Prelude.{slice_index}
use Rattle.std.specs.List.Sorted.{IsNonDecreasing}
use Rattle.std.proofs.lemmas.Bool.{cases_lt}
use Rattle.std.proofs.lemmas.Map.Keys.{non_decreasing_from_sorted, sorted_from_strictly_increasing}
use Rattle.sets.specs.Sets.{IsSetOf}
use Rattle.sets.proofs.PublicLaws.{set_below_is_filter}
use Rattle.vers_sorted.specs.Layout.{last_of}
use Rattle.vers_sorted.specs.Sorted.{is_element}
use Rattle.vers_sorted.proofs.PublicLaws.{below_after, below_before, not_element}
use Rattle.vers_c.specs.Combined.{numbers_with}

false-true : {A : Type 0} → false ≡ true → A
false-true e = cc

-- no element of an ascending list is above the last one
upto_last : (xs : List ℕ) → IsNonDecreasing xs → (i : ℕ) → i < length xs → slice_index xs i ≤ last_of xs
upto_last xs up i inside = elim (cases_lt i (below xs (last_of xs + 1))) [
  | inl before ↦ omega (arith, below_before xs (last_of xs + 1) i up before)
  | inr after ↦ absurd (omega (arith, below_after xs (last_of xs + 1) (length xs - 1) up (omega (arith, after, inside)) (omega (arith, inside))))
]

element_fits : (xs : List ℕ) → IsNonDecreasing xs → last_of xs < 18446744073709551616 → (x : ℕ) → is_element xs x ≡ true → x < 18446744073709551616
element_fits xs up fits x has = elim (cases_lt x 18446744073709551616) [
  | inl less ↦ less
  | inr more ↦ false-true (sym (not_element xs x (λ i inside is. omega (arith, upto_last xs up i inside, is, fits, more))) ∙ has)
]

-- a set of numbers of 64 bits is one list
pub set_is : (xs : List ℕ) → last_of xs < 18446744073709551616 → (has : ℕ → Bool) → IsSetOf has xs → xs ≡ numbers_with has
unfolding numbers_with
set_is xs fits has set =
    let up : IsNonDecreasing xs = non_decreasing_from_sorted xs (sorted_from_strictly_increasing xs set.ascending) in
    set_below_is_filter has 18446744073709551616 xs (λ x h. element_fits xs up fits x (set.numbers x ∙ h)) set
