-- The first position of a least element in a range.
use Rattle.std.specs.Prelude.{ℕ, ◌+◌, ◌-◌, ◌<◌, ◌≤◌, ◌&&◌, Bool, List, length, Option, Some, None, find, slice_index, nat_le, nat_lt, if◌then◌else◌}
use Rattle.std.specs.List.{list_all, range_with_len}
use Rattle.std.specs.Option.{unwrap_or}

-- m is a position from i to j, both included, no element from i to j is less than the one at m, and those from i to before m are greater
pub record IsFirstLeast (items : List ℕ) (i j m : ℕ) : Type 0 where
  pub from : i ≤ m
  pub to : m ≤ j
  pub least : (p : ℕ) → i ≤ p → p ≤ j → slice_index items m ≤ slice_index items p
  pub leftmost : (p : ℕ) → i ≤ p → p < m → slice_index items m < slice_index items p

-- the one of two positions that has the lesser element, the first if they are equal
unfoldable pub lesser : List ℕ → ℕ → ℕ → ℕ
lesser items m n = if nat_le (slice_index items m) (slice_index items n) then m else n

-- whether none of the positions has a lesser element than position m
unfoldable pub is_least : List ℕ → List ℕ → ℕ → Bool
is_least items positions m = list_all (λ p. nat_le (slice_index items m) (slice_index items p)) positions

-- the first of the positions that has a least element of them
unfoldable pub first_least_of : List ℕ → List ℕ → Option ℕ
first_least_of items positions = find (is_least items positions) positions

-- the first position of a least element from position i to position j, both included; i if i is past j
unfoldable pub least_position : List ℕ → ℕ → ℕ → ℕ
least_position items i j = unwrap_or (first_least_of items (range_with_len i (j + 1 - i))) i

-- the first position of a least element from position i to position j, both included; `None` unless i is at most j and j is a position
abbrev pub first_least : List ℕ → ℕ → ℕ → Option ℕ
first_least items i j = if nat_le i j && nat_lt j (length items) then Some (least_position items i j) else None
