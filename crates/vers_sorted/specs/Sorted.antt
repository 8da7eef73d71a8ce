-- Ascending lists of numbers, and their queries.
use Rattle.std.specs.Prelude.{ℕ, ◌-◌, ◌==◌, ◌&&◌, Bool, true, List, [], ◌∷◌, count_by, filter, find, slice_get, slice_index, nat_lt, nat_le, Option, None, option_map, if◌then◌else◌}
use Rattle.std.specs.List.{last_or, list_any}

-- whether each number is in this order with the next one
abbrev pub each_next : (ℕ → ℕ → Bool) → List ℕ → Bool
each_next order [] = true
each_next order (n ∷ []) = true
each_next order (n ∷ next ∷ more) = order n next && each_next order (next ∷ more)

-- `at most`, or `less than` if strictly
abbrev pub order_of : Bool → (ℕ → ℕ → Bool)
order_of strictly = if strictly then nat_lt else nat_le

-- whether v is an element
unfoldable pub is_element : List ℕ → ℕ → Bool
is_element elements v = list_any (λ m. m == v) elements

-- how many elements are less than v
unfoldable pub below : List ℕ → ℕ → ℕ
below elements v = count_by (λ m. nat_lt m v) elements

-- the last element that is at most v: in an ascending list, the greatest
unfoldable pub greatest_not_above : List ℕ → ℕ → Option ℕ
greatest_not_above elements v = last_or None (filter (λ m. nat_le m v) elements)

-- the first element that is at least v: in an ascending list, the least
unfoldable pub least_not_below : List ℕ → ℕ → Option ℕ
least_not_below elements v = find (λ m. nat_le v m) elements

-- element i less the one before it; element 0 less 0
unfoldable pub delta : List ℕ → ℕ → Option ℕ
delta elements i = option_map (λ m. m - (if i == 0 then 0 else slice_index elements (i - 1))) (slice_get elements i)
