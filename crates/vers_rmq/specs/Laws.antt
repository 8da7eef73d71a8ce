-- The laws of range minima, as statements.
use Rattle.std.specs.Prelude.{◌≡◌, ℕ, ◌≤◌, List}
use Rattle.vers_rmq.specs.Minima.{IsFirstLeast, least_position}

-- a range has exactly one first position of a least element
abbrev pub OneFirstLeast : Type 0
OneFirstLeast = (items : List ℕ) (i j m n : ℕ) → IsFirstLeast items i j m → IsFirstLeast items i j n → m ≡ n

-- `least_position` is the first position of a least element in its range
abbrev pub LeastPositionIsFirst : Type 0
LeastPositionIsFirst = (items : List ℕ) (i j : ℕ) → i ≤ j → IsFirstLeast items i j (least_position items i j)
