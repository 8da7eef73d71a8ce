-- Lists of which some items have changed.
use Rattle.std.specs.Prelude.{◌≡◌, ℕ, ◌+◌, ◌<◌, ◌≤◌, List, length, slice_index_or}

-- the n elements from element `from` are as the relation allows, and the others are unchanged; d is the default past the end of a list
pub record Changed {X : Type 0} (d : X) (R : X → X → Type 0) (from n : ℕ) (xs ys : List X) : Type 0 where
  pub long : length ys ≡ length xs
  pub each : (j : ℕ) → j < n → R (slice_index_or xs (from + j) d) (slice_index_or ys (from + j) d)
  pub before : (j : ℕ) → j < from → slice_index_or ys j d ≡ slice_index_or xs j d
  pub after : (j : ℕ) → from + n ≤ j → slice_index_or ys j d ≡ slice_index_or xs j d
