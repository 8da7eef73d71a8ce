-- The laws of sets as ascending lists, as statements.
use Rattle.std.specs.Prelude.{◌≡◌, ◌<◌, ℕ, not, Bool, true, List, filter}
use Rattle.std.specs.List.{range_with_len}
use Rattle.std.specs.List.Sorted.{IsStrictlyIncreasing}
use Rattle.sets.specs.Sets.{IsSetOf, in_both, in_difference}
use Rattle.vers_sorted.specs.Sorted.{is_element}

-- a set is one list
abbrev pub SetIsOneList : Type 0
SetIsOneList = (has : ℕ → Bool) (xs ys : List ℕ) → IsSetOf has xs → IsSetOf has ys → xs ≡ ys

-- the intersection with a strictly ascending list is a filter of this list
abbrev pub IntersectionIsFilter : Type 0
IntersectionIsFilter = (one other found : List ℕ) → IsStrictlyIncreasing one → IsSetOf (in_both one other) found
    → found ≡ filter (is_element other) one

-- the difference of a strictly ascending list and another is a filter of this list
abbrev pub DifferenceIsFilter : Type 0
DifferenceIsFilter = (one other found : List ℕ) → IsStrictlyIncreasing one → IsSetOf (in_difference one other) found
    → found ≡ filter (λ x. not (is_element other x)) one

-- a set of numbers below a limit is a filter of the numbers below it
abbrev pub SetBelowIsFilter : Type 0
SetBelowIsFilter = (has : ℕ → Bool) (limit : ℕ) (found : List ℕ) → ((x : ℕ) → has x ≡ true → x < limit) → IsSetOf has found
    → found ≡ filter has (range_with_len 0 limit)
