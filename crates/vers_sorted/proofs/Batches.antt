-- The bounds of batches.
use Rattle.vers_sorted.proofs.Names.{◌≡◌, ℕ, ◌+◌, List, length, arith, IsWithin, plus, times, only_low_parts, digits, high_length, search_reads, reads}

-- and the search after it
pub rank_reads : (k n : ℕ) (s : List ℕ) → k ≡ n → IsWithin (plus (times k (reads 1 3 (high_length s))) (times n (only_low_parts (digits (length s) + 4)))) (times n (search_reads s))
rank_reads k n s e = rw e (grind arith)

pub neighbour_reads : (k n : ℕ) (s : List ℕ) → k ≡ n → IsWithin (plus (times k (reads 1 3 (high_length s))) (times n (reads (digits (length s) + 5) 2 (high_length s)))) (times n (search_reads s))
neighbour_reads k n s e = rw e (grind arith)
