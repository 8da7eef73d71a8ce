-- The elements next to a number.
use Rattle.vers_sorted.proofs.Names.{◌≡◌, ℕ, ◌+◌, ◌-◌, ◌<◌, ◌≤◌, Bool, List, length, refl, sym, ap, ◌∙◌, arith, inl, inr, cases_lt, Option, Some, None, unwrap_or, slice_index, slice_get, IsNonDecreasing, le-leb, lt-leb, ne_eqb, below, slice_get-get_or, slice_get_past, find_is, none_passing, last_passing_is, IsPacked, greatest_not_above, least_not_below, delta}
use Rattle.std.proofs.lemmas.Option.{none-some}
use Rattle.vers_sorted.specs.Laws.{GreatestNotAboveIsGreatest, LeastNotBelowIsLeast}
use Rattle.vers_sorted.proofs.Below.{below_le, below_up, below_from, below_to, below_before, below_after, none_below, all_below}

pub succ_is : (s : List ℕ) (v : ℕ) → IsNonDecreasing s → least_not_below s v ≡ slice_get s (below s v)
unfolding least_not_below
succ_is s v up = grind (arith, find_is, below_le, lt-leb, below_before, le-leb, below_after)

pub pred_none : (s : List ℕ) (v : ℕ) → IsNonDecreasing s → below s (v + 1) ≡ 0 → greatest_not_above s v ≡ None
unfolding greatest_not_above
pred_none s v up e = grind (arith, none_passing, lt-leb, below_after)

pub pred_some : (s : List ℕ) (v : ℕ) → IsNonDecreasing s → 0 < below s (v + 1) → greatest_not_above s v ≡ slice_get s (below s (v + 1) - 1)
unfolding greatest_not_above
pred_some s v up some = grind (arith, last_passing_is, below_le, le-leb, below_before, lt-leb, below_after)

-- ---- the neighbours of a number that is between the first element and the last

pub succ_past : (s : List ℕ) (v : ℕ) → IsNonDecreasing s → below s v ≡ length s → least_not_below s v ≡ None
succ_past s v up e = succ_is s v up ∙ slice_get_past s (below s v) (omega arith)

pub succ_at : (s : List ℕ) (v k : ℕ) → IsNonDecreasing s → k ≡ below s v → k < length s → least_not_below s v ≡ Some (slice_index s k)
succ_at s v k up e h = succ_is s v up ∙ ap (slice_get s) (sym e) ∙ slice_get-get_or s k 0 h

pub pred_at : (s : List ℕ) (v k : ℕ) → IsNonDecreasing s → k ≡ below s (v + 1) → 0 < k → greatest_not_above s v ≡ Some (slice_index s (k - 1))
pred_at s v k up e some = grind (arith, pred_some, slice_get-get_or, below_le)

-- one element at least is below a number above the first, and one at least is not below a number up to the last
pub some_below : (s : List ℕ) (v : ℕ) → IsNonDecreasing s → 0 < length s → slice_index s 0 < v → 0 < below s v
some_below s v up some less = omega (arith, below_from s v 0 up some less)

pub some_left : (s : List ℕ) (v : ℕ) → IsNonDecreasing s → 0 < length s → v ≤ slice_index s (length s - 1) → below s v < length s
some_left s v up some more = omega (arith, below_to s v (length s - 1) up (omega arith) more)

-- ---- that a neighbour is the nearest element

pub is_greatest : GreatestNotAboveIsGreatest
is_greatest s v x up found = elim (cases_lt 0 (below s (v + 1))) [
  | inl some ↦
      let last = below s (v + 1) - 1 in
      let inside : last < length s = omega (arith, below_le s (v + 1), some) in
      let is : slice_index s last ≡ x = ap (λ (o : Option ℕ). unwrap_or o 0) (sym (pred_at s v (below s (v + 1)) up refl some) ∙ found) in
      record {
        element = (last, inside, is);
        not_above = omega (arith, is, below_before s (v + 1) last up (omega (arith, some)));
        greatest = λ i h low. elim (cases_lt i (below s (v + 1))) [
          | inl before ↦ omega (arith, is, up i last 0 (omega (arith, before)) inside)
          | inr after ↦ absurd (omega (arith, low, below_after s (v + 1) i up after h))
        ];
      }
  | inr none ↦ absurd (none-some x (sym (pred_none s v up (omega (arith, none))) ∙ found))
]

pub is_least : LeastNotBelowIsLeast
is_least s v x up found = elim (cases_lt (below s v) (length s)) [
  | inl inside ↦
      let is : slice_index s (below s v) ≡ x = ap (λ (o : Option ℕ). unwrap_or o 0) (sym (succ_at s v (below s v) up refl inside) ∙ found) in
      record {
        element = (below s v, inside, is);
        not_below = omega (arith, is, below_after s v (below s v) up (omega arith) inside);
        least = λ i h high. elim (cases_lt i (below s v)) [
          | inl before ↦ absurd (omega (arith, high, below_before s v i up before))
          | inr after ↦ omega (arith, is, up (below s v) i 0 after h)
        ];
      }
  | inr past ↦ absurd (none-some x (sym (succ_past s v up (omega (arith, past, below_le s v))) ∙ found))
]

-- ---- how far an element is above the one before it

pub delta_first : {s : List ℕ} {high low : List Bool} {first last width : ℕ} (i : ℕ) → IsPacked s high low first last width → i < length s → i ≡ 0 → delta s i ≡ Some first
unfolding delta
delta_first {s} i packed some e = grind (arith, slice_get-get_or)

pub delta_later : (s : List ℕ) (i : ℕ) → i < length s → 0 < i → delta s i ≡ Some (slice_index s i - slice_index s (i - 1))
unfolding delta
delta_later s i h some = rw (slice_get-get_or s i 0 h, ne_eqb i 0 (λ e. absurd (omega arith))) refl

pub delta_none : (s : List ℕ) (i : ℕ) → length s ≤ i → delta s i ≡ None
unfolding delta
delta_none s i h = rw (slice_get_past s i h) refl

pub element_before : {s : List ℕ} {high low : List Bool} {first last width : ℕ} (i : ℕ) → IsPacked s high low first last width → i < length s → 0 < i → slice_index s (i - 1) ≤ slice_index s i
element_before i packed h some = packed.ascending (i - 1) i 0 (omega arith) h

pub ruleset deltas = (delta_first, delta_later, delta_none, element_before)

-- what the laws state about `below` and of the neighbours
pub ruleset laws = (below_le, below_up, below_before, below_after, succ_is, pred_some, pred_none, is_greatest, is_least)

-- what is outside the elements
pub ruleset outside = (below_le, none_below, all_below, succ_past, succ_at, pred_none, pred_at)
