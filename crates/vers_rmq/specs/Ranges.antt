-- The ends of a range as positions of a list.
use Rattle.std.specs.Prelude.{ℕ, ◌-◌, ◌^◌, ◌<◌, ◌≤◌, min}
use Rattle.std.specs.declared.ops.Bound.{Bound}
use Rattle.std.specs.Range.Bound.{start_index, end_index}

-- the first position of a range that starts at the bound, cut to n positions
abbrev pub start_position : Bound ℕ → ℕ → ℕ
start_position start n = min (start_index start) (n - 1)

-- the last position of a range that ends at the bound, cut to n positions
abbrev pub end_position : Bound ℕ → ℕ → ℕ
end_position end n = min (end_index end n - 1) (n - 1)

-- the bounds name a range of n elements: n is not 0, an excluded start is not the greatest number, an excluded end is not 0, and the start, cut to the positions, is not past the end
pub record IsRangeOf (start end : Bound ℕ) (n : ℕ) : Type 0 where
  pub some : 0 < n
  pub start_fits : start_index start < 2 ^ 64
  pub end_above : 0 < end_index end n
  pub ordered : start_position start n ≤ end_position end n
