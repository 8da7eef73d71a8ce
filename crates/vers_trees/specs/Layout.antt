-- How many nodes the tree over the blocks of a list has, how much memory it takes, and what a search in it reads.
use Rattle.std.specs.Prelude.{ℕ, zero, suc, ◌+◌, ◌-◌, ◌*◌, ◌^◌, max, min, List, Bool, length}
pub use Rattle.vers_bits.specs.Bits.{block_count}
use Rattle.vers_tally.specs.Reads.{Reads, no_reads, plus}
pub use Rattle.vers_tally.specs.Reads.{clog}
use Rattle.vers_rank.specs.Queries.{index_size, get_reads}

-- how many levels the tree has over n bits in blocks of `size`
unfoldable pub levels : ℕ → ℕ → ℕ
levels size zero = 0
levels size (suc n) = max 1 (clog (block_count size (suc n))) + 1

-- how many nodes it has: one for each block, and one less than the least power of two that is not below their number, but at least one
unfoldable pub node_count : ℕ → ℕ → ℕ
node_count size zero = 0
node_count size (suc n) = block_count size (suc n) + max 1 (2 ^ clog (block_count size (suc n)) - 1)

-- the bytes of a list with its index and its min-max tree of 24 bytes a node, or the greatest `usize` if they are more
abbrev pub tree_heap_size : ℕ → List Bool → ℕ
tree_heap_size size bits = min (index_size bits + 24 * node_count size (length bits)) 18446744073709551615

-- bound on one search over n bits: two blocks begun, four nodes a level, and each bit of two blocks once
abbrev pub search_reads : ℕ → ℕ → Reads
search_reads size n = record no_reads { data_words = 2 * size + 4; rank_calls = 2 * size + 4; blocks = 2; nodes = 4 * levels size n }

-- `search_reads` and one bit more, which selects the search
abbrev pub enclose_reads : ℕ → ℕ → Reads
enclose_reads size n = plus get_reads (search_reads size n)

-- bound on two searches
abbrev pub two_searches_reads : ℕ → ℕ → Reads
two_searches_reads size n = plus (search_reads size n) (search_reads size n)
