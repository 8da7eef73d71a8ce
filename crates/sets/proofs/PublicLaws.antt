-- The laws that proofs of other crates may cite. A crate above imports this file and no other of this folder.
use Rattle.std.proofs.Common.{◌≡◌, ℕ, ◌+◌, ◌-◌, ◌≤◌, List, length, get_or, Some, None}
use Rattle.std.specs.List.Sorted.{IsNonDecreasing}
use Rattle.vers_sorted.specs.Sorted.{is_element, below, least_not_below}
use Rattle.sets.specs.Steps.{HasNoMore, IsNext}
use Rattle.sets.specs.Laws.{SetIsOneList, IntersectionIsFilter, DifferenceIsFilter, SetBelowIsFilter}
use Rattle.sets.proofs.Lists as Lists
use Rattle.sets.proofs.Uniqueness as Uniqueness

pub set_is_one_list : SetIsOneList
set_is_one_list = Uniqueness.set_is_one_list

pub intersection_is_filter : IntersectionIsFilter
intersection_is_filter = Uniqueness.intersection_is_filter

pub difference_is_filter : DifferenceIsFilter
difference_is_filter = Uniqueness.difference_is_filter

pub set_below_is_filter : SetBelowIsFilter
set_below_is_filter = Uniqueness.set_below_is_filter

-- a search of an ascending list for the next element is a step
pub next_element : (xs : List ℕ) (v x : ℕ) → IsNonDecreasing xs → Some x ≡ least_not_below xs v → x ≤ 18446744073709551615 → (x ≡ 18446744073709551615 → get_or xs (length xs - 1) 0 ≤ 18446744073709551615) → IsNext (is_element xs) v x
next_element = Lists.next_element

pub next_passes : (xs : List ℕ) (v x : ℕ) → IsNonDecreasing xs → Some x ≡ least_not_below xs v → below xs v + 1 ≤ below xs (x + 1)
next_passes = Lists.next_passes

pub no_next : (xs : List ℕ) (v : ℕ) → IsNonDecreasing xs → least_not_below xs v ≡ None → HasNoMore (is_element xs) v
no_next = Lists.no_next
