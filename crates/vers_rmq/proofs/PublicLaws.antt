-- The laws that proofs of other crates may cite. A crate above imports this file and no other of this folder.
use Rattle.vers_rmq.proofs.Names.{◌≡◌, ℕ, ◌+◌, ◌-◌, ◌<◌, ◌≤◌, List, Some, range_with_len, IsFirstLeast, first_least_of, least_position}
use Rattle.vers_rmq.proofs.Found as Found

-- of the n positions from i on, the first with a least item is the first least position of this range
pub first_least_of-range : (items : List ℕ) (i n m : ℕ) → 0 < n → IsFirstLeast items i (i + n - 1) m → first_least_of items (range_with_len i n) ≡ Some m
first_least_of-range = Found.first_least_of-range

-- what is the least position of a range is its first least position
pub as_first : (items : List ℕ) (i j m : ℕ) → i ≤ j → m ≡ least_position items i j → IsFirstLeast items i j m
as_first = Found.as_first
