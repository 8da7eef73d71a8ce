-- Least items, with their positions.
use Rattle.std.specs.Prelude.{◌≡◌, ℕ, List, slice_index, nat_le, if◌then◌else◌}
use Rattle.vers_rmq.specs.declared.rmq.least.PlacedItem.{PlacedItem}
use Rattle.vers_rmq.specs.Minima.{IsFirstLeast}

-- the candidate is at the first position of a least element from i to j, and has that element
pub record IsLeastItem (items : List ℕ) (i j : ℕ) (candidate : PlacedItem) : Type 0 where
  pub position : IsFirstLeast items i j candidate.position
  pub item : candidate.value ≡ slice_index items candidate.position

-- the lesser of two items, the first if they are equal
abbrev pub lesser_item : PlacedItem → PlacedItem → PlacedItem
lesser_item first second = if nat_le first.value second.value then first else second
