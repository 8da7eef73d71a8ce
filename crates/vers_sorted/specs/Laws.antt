-- The laws of ascending lists, as statements.
use Rattle.std.specs.Prelude.{◌≡◌, ℕ, ◌+◌, ◌-◌, ◌^◌, ◌<◌, ◌≤◌, max, Bool, List, length, slice_index, slice_get, None, Some}
use Rattle.std.specs.List.Sorted.{IsNonDecreasing}
use Rattle.vers_sorted.specs.Sorted.{below, greatest_not_above, least_not_below}
use Rattle.vers_sorted.specs.Layout.{ArePartsOf, clog, first_of, high_parts, low_parts, low_width, elements}
pub use Rattle.vers_tally.specs.Laws.{ClogIsLeast}

-- `below` is at most the number of elements
abbrev pub BelowIsAtMostAll : Type 0
BelowIsAtMostAll = (elements : List ℕ) (v : ℕ) → below elements v ≤ length elements

-- `below` never falls for a greater number
abbrev pub BelowRises : Type 0
BelowRises = (elements : List ℕ) (v w : ℕ) → v ≤ w → below elements v ≤ below elements w

-- in an ascending list the elements before position `below elements v` are less than v
abbrev pub FirstElementsAreBelow : Type 0
FirstElementsAreBelow = (elements : List ℕ) (v i : ℕ) → IsNonDecreasing elements
    → i < below elements v → slice_index elements i < v

-- in an ascending list the elements from position `below elements v` are at least v
abbrev pub OtherElementsAreNotBelow : Type 0
OtherElementsAreNotBelow = (elements : List ℕ) (v i : ℕ) → IsNonDecreasing elements
    → below elements v ≤ i → i < length elements → v ≤ slice_index elements i

-- the least element that is at least v is at position `below elements v`, or there is none
abbrev pub LeastNotBelowIsNext : Type 0
LeastNotBelowIsNext = (elements : List ℕ) (v : ℕ) → IsNonDecreasing elements
    → least_not_below elements v ≡ slice_get elements (below elements v)

-- the greatest element that is at most v is the last one before position `below elements (v + 1)`, if there is one
abbrev pub GreatestNotAboveIsLast : Type 0
GreatestNotAboveIsLast = (elements : List ℕ) (v : ℕ) → IsNonDecreasing elements → 0 < below elements (v + 1)
    → greatest_not_above elements v ≡ slice_get elements (below elements (v + 1) - 1)

-- if no element is less than v + 1, none is at most v
abbrev pub NoneBelowNoneNotAbove : Type 0
NoneBelowNoneNotAbove = (elements : List ℕ) (v : ℕ) → IsNonDecreasing elements → below elements (v + 1) ≡ 0
    → greatest_not_above elements v ≡ None

-- x is an element that is at most v, and the greatest such element
pub record IsGreatestNotAbove (elements : List ℕ) (v x : ℕ) : Type 0 where
  pub element : (i : ℕ) × (i < length elements) × (slice_index elements i ≡ x)
  pub not_above : x ≤ v
  pub greatest : (i : ℕ) → i < length elements → slice_index elements i ≤ v → slice_index elements i ≤ x

-- x is an element that is at least v, and the least such element
pub record IsLeastNotBelow (elements : List ℕ) (v x : ℕ) : Type 0 where
  pub element : (i : ℕ) × (i < length elements) × (slice_index elements i ≡ x)
  pub not_below : v ≤ x
  pub least : (i : ℕ) → i < length elements → v ≤ slice_index elements i → x ≤ slice_index elements i

-- the neighbour at or below v is the greatest element that is at most v
abbrev pub GreatestNotAboveIsGreatest : Type 0
GreatestNotAboveIsGreatest = (elements : List ℕ) (v x : ℕ) → IsNonDecreasing elements
    → greatest_not_above elements v ≡ Some x → IsGreatestNotAbove elements v x

-- the neighbour at or above v is the least element that is at least v
abbrev pub LeastNotBelowIsLeast : Type 0
LeastNotBelowIsLeast = (elements : List ℕ) (v x : ℕ) → IsNonDecreasing elements
    → least_not_below elements v ≡ Some x → IsLeastNotBelow elements v x

-- the high parts of n elements have at most 2 + n + p bits; p is the least power of two that is at least n and at least 2
abbrev pub HighPartsAreFew : Type 0
HighPartsAreFew = (elements : List ℕ)
    → length (high_parts elements) ≤ 2 + length elements + 2 ^ clog (max (length elements) 2)

-- the parts of an ascending list decode to its elements
abbrev pub PartsDecodeToList : Type 0
PartsDecodeToList = (s : List ℕ) → IsNonDecreasing s → elements (high_parts s) (low_parts s) (first_of s) (low_width s) (length s) ≡ s

-- two ascending lists with the same ends and parts are equal
abbrev pub PartsDetermineList : Type 0
PartsDetermineList = (s t : List ℕ) (n first last : ℕ) (low high : List Bool) → IsNonDecreasing s → IsNonDecreasing t
    → ArePartsOf s n first last low high → ArePartsOf t n first last low high → s ≡ t
