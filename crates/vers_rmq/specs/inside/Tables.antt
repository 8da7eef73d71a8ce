-- The table of positions.
use Rattle.std.specs.Prelude.{◌≡◌, ℕ, ◌+◌, ◌-◌, ◌*◌, ◌^◌, ◌<◌, min, List, length, slice_index}
use Rattle.vers_rmq.specs.Minima.{IsFirstLeast}
use Rattle.vers_rmq.specs.Layout.{clog}

-- the last of the 2 ^ k positions from i on, or of n positions if they are fewer
abbrev pub reach : ℕ → ℕ → ℕ → ℕ
reach n k i = min (i + 2 ^ k) n - 1

-- entry i of level k, of as many as there are, is the first position of a least item of the 2 ^ k positions from i on
pub record HoldsPositions (items table : List ℕ) : Type 0 where
  pub position : (k i : ℕ) → i < length items → length items * k + i < length table → IsFirstLeast items i (reach (length items) k i) (slice_index table (length items * k + i))

-- a level for each power of two up to the first that is not below the number of items
pub record IsTable (items table : List ℕ) : Type 0 where
  pub bounded : length items < 2 ^ 32
  pub positions : HoldsPositions items table
  pub counted : length table ≡ length items * (clog (length items) + 1)
