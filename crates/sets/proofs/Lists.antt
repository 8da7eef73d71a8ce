-- Elements of ascending lists.
use Rattle.std.proofs.Common.{◌≡◌, ℕ, ◌+◌, ◌-◌, ◌<◌, ◌≤◌, Bool, true, false, List, [], ◌∷◌, length, get_or, refl, sym, ap, unwrap_or, ◌∙◌, arith, inl, inr, suc, zero}
use Rattle.std.specs.Prelude.{◌==◌, ◌||◌, slice_get, Some, None}
use Rattle.std.specs.List.Sorted.{IsNonDecreasing}
use Rattle.std.proofs.lemmas.Bool.{cases_lt, eq-eqb, ne_eqb}
use Rattle.std.proofs.lemmas.Option.{get_or_from_slice_get, none-some, slice_get-get_or, slice_get_within}
use Rattle.vers_sorted.specs.Sorted.{is_element, below, least_not_below}
use Rattle.vers_sorted.proofs.PublicLaws.{below_le, below_up, below_before, below_after, least_not_below_is, element_at, not_element}
use Rattle.sets.specs.Steps.{Rises, HasNone, HasNoMore, IsNext}

pub below_rises : (elements : List ℕ) → Rises (below elements) (length elements)
below_rises elements = record { rises = below_up elements; bounded = below_le elements }

-- ---- the next element

-- a list has none of the numbers from v to the element at the position where those below v end
next_none_before : (xs : List ℕ) (v to : ℕ) → IsNonDecreasing xs → (below xs v < length xs → to ≤ get_or xs (below xs v) 0) → HasNone (is_element xs) v to
next_none_before xs v to up first x from before =
    not_element xs x (λ i inside same. elim (cases_lt i (below xs v)) [
      | inl less ↦ omega (arith, below_before xs v i up less, from, same)
      | inr more ↦ omega (arith, first (omega (arith, more, inside)), up (below xs v) i 0 more inside, before, same)
    ])

pub no_next : (xs : List ℕ) (v : ℕ) → IsNonDecreasing xs → least_not_below xs v ≡ None → HasNoMore (is_element xs) v
no_next xs v up none x from =
    next_none_before xs v (x + 1) up (λ inside. absurd (none-some (get_or xs (below xs v) 0) (sym none ∙ least_not_below_is xs v up ∙ slice_get-get_or xs (below xs v) 0 inside))) x from (omega arith)

-- there is a next element exactly if some elements aren't below v
next_inside : (xs : List ℕ) (v x : ℕ) → IsNonDecreasing xs → Some x ≡ least_not_below xs v → slice_get xs (below xs v) ≡ Some x
next_inside xs v x up next = sym (least_not_below_is xs v up) ∙ sym next

pub next_within : (xs : List ℕ) (v x : ℕ) → IsNonDecreasing xs → Some x ≡ least_not_below xs v → below xs v < length xs
next_within xs v x up next = slice_get_within xs (below xs v) x (next_inside xs v x up next)

next_is : (xs : List ℕ) (v x : ℕ) → IsNonDecreasing xs → Some x ≡ least_not_below xs v → get_or xs (below xs v) 0 ≡ x
next_is xs v x up next = get_or_from_slice_get xs (below xs v) x 0 (next_inside xs v x up next)

-- the next element, of a list whose last element is of 64 bits where this one is the greatest such
pub next_element : (xs : List ℕ) (v x : ℕ) → IsNonDecreasing xs → Some x ≡ least_not_below xs v → x ≤ 18446744073709551615 → (x ≡ 18446744073709551615 → get_or xs (length xs - 1) 0 ≤ 18446744073709551615) → IsNext (is_element xs) v x
next_element xs v x up next fits last =
    let here = next_is xs v x up next in
    let inside = next_within xs v x up next in
    let there : v ≤ get_or xs (below xs v) 0 = below_after xs v (below xs v) up (omega arith) inside in
    record {
      from = omega (arith, here, there);
      fits = fits;
      none = next_none_before xs v x up (λ _. omega (arith, here));
      there = element_at xs x (below xs v) inside here;
      most = λ is_most y after. not_element xs y (λ i within same. omega (arith, same, up i (length xs - 1) 0 (omega (arith, within)) (omega (arith, within)), last is_most, is_most, after));
    }

-- a search passes the element that it finds
pub next_passes : (xs : List ℕ) (v x : ℕ) → IsNonDecreasing xs → Some x ≡ least_not_below xs v → below xs v + 1 ≤ below xs (x + 1)
next_passes xs v x up next =
    elim (cases_lt (below xs v) (below xs (x + 1))) [
      | inl less ↦ omega (arith, less)
      | inr more ↦ absurd (omega (arith, below_after xs (x + 1) (below xs v) up more (next_within xs v x up next), next_is xs v x up next))
    ]

-- ---- the step to an element

-- the greatest number of 64 bits is the last element
most_is_last : (xs : List ℕ) (v x last : ℕ) → IsNonDecreasing xs → Some x ≡ least_not_below xs v → 18446744073709551615 ≤ x → slice_get xs (length xs - 1) ≡ Some last → last ≤ 18446744073709551615 → last ≡ x
most_is_last xs v x last up next is_most at_end fits =
    let inside = next_within xs v x up next in
    let here = next_is xs v x up next in
    let there = get_or_from_slice_get xs (length xs - 1) last 0 at_end in
    omega (arith, here, there, is_most, fits, up (below xs v) (length xs - 1) 0 (omega (arith, inside)) (omega (arith, inside)))

pub last_step : (xs : List ℕ) (x last v : ℕ) → IsNonDecreasing xs → Some x ≡ least_not_below xs v → 18446744073709551615 ≤ x → slice_get xs (length xs - 1) ≡ Some last → last ≤ 18446744073709551615 → IsNext (is_element xs) v last
last_step xs x last v up next is_most at_end fits =
    let same = most_is_last xs v x last up next is_most at_end fits in
    let there = get_or_from_slice_get xs (length xs - 1) last 0 at_end in
    rw same (next_element xs v x up next (omega (arith, same, fits)) (λ _. omega (arith, there, fits)))

pub last_passes : (xs : List ℕ) (x last v : ℕ) → IsNonDecreasing xs → Some x ≡ least_not_below xs v → 18446744073709551615 ≤ x → slice_get xs (length xs - 1) ≡ Some last → last ≤ 18446744073709551615 → below xs v + 1 ≤ below xs (last + 1)
last_passes xs x last v up next is_most at_end fits = rw (most_is_last xs v x last up next is_most at_end fits) (next_passes xs v x up next)

-- a list with an element has a last one
pub last_read : (xs : List ℕ) (x last v : ℕ) → IsNonDecreasing xs → Some x ≡ least_not_below xs v → last ≡ unwrap_or (slice_get xs (length xs - 1)) x → slice_get xs (length xs - 1) ≡ Some last
last_read xs x last v up next is =
    let there : slice_get xs (length xs - 1) ≡ Some (get_or xs (length xs - 1) 0) = slice_get-get_or xs (length xs - 1) 0 (omega (arith, next_within xs v x up next)) in
    there ∙ ap Some (sym (is ∙ ap (λ o. unwrap_or o x) there))
