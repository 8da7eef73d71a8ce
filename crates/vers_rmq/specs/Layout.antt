-- How much memory range minima take.
use Rattle.std.specs.Prelude.{ℕ, ◌+◌, ◌*◌}
use Rattle.vers_bits.specs.Bits.{block_count}
pub use Rattle.vers_tally.specs.Reads.{clog}

-- the bytes of n elements of 8 bytes and of a table with 4 bytes for each element and each power of two up to the first that is at least n
abbrev pub binary_heap_size : ℕ → ℕ
binary_heap_size n = 8 * n + 4 * (n * (clog n + 1))

-- the bytes of n elements of 8 bytes, of the least elements of the blocks of 128 with their table, and 65 for each block: one position of 1 byte and four masks of 16
abbrev pub fast_heap_size : ℕ → ℕ
fast_heap_size n = 8 * n + binary_heap_size (block_count 128 n) + 65 * block_count 128 n
