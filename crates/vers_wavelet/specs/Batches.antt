-- Lists whose elements are replaced one by one.
use Rattle.std.specs.Prelude.{◌≡◌, ℕ, ◌<◌, List, length, slice_index_or}

-- the lists have the same length, and R relates each element of xs to the element of ys at the same position
pub record Become {Q : Type 0} (R : Q → Q → Type 0) (xs ys : List Q) : Type 0 where
  pub long : length ys ≡ length xs
  pub each : (p : ℕ) (d : Q) → p < length xs → R (slice_index_or xs p d) (slice_index_or ys p d)
