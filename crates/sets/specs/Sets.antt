-- Ascending lists read as sets: equal elements count once.
use Rattle.std.specs.Prelude.{◌≡◌, ℕ, ◌&&◌, ◌||◌, not, Bool, List}
use Rattle.std.specs.List.{list_all, list_any}
use Rattle.std.specs.List.Sorted.{IsStrictlyIncreasing}
use Rattle.vers_sorted.specs.Sorted.{is_element}

-- the list ascends strictly, and its elements are exactly the numbers for which `has` is true
pub record IsSetOf (has : ℕ → Bool) (elements : List ℕ) : Type 0 where
  pub ascending : IsStrictlyIncreasing elements
  pub numbers : (x : ℕ) → is_element elements x ≡ has x

-- whether x is in both lists
abbrev pub in_both : List ℕ → List ℕ → ℕ → Bool
in_both one other x = is_element one x && is_element other x

-- whether x is in one list or in both
abbrev pub in_either : List ℕ → List ℕ → ℕ → Bool
in_either one other x = is_element one x || is_element other x

-- whether x is in the first list and not in the other
abbrev pub in_difference : List ℕ → List ℕ → ℕ → Bool
in_difference one other x = is_element one x && not (is_element other x)

-- whether x is in the first list and in none of the others
abbrev pub in_difference_of : List ℕ → List (List ℕ) → ℕ → Bool
in_difference_of first others x = is_element first x && not (list_any (λ other. is_element other x) others)

-- whether x is in the first list and in each of the others
abbrev pub in_all : List ℕ → List (List ℕ) → ℕ → Bool
in_all first others x = is_element first x && list_all (λ other. is_element other x) others

-- whether x is in at least one list
abbrev pub in_any : List (List ℕ) → ℕ → Bool
in_any lists x = list_any (λ elements. is_element elements x) lists
