-- Iterators over the positions of the ones (or zeros) of an indexed list, by chunks of 16 bits.
use Rattle.std.specs.Prelude.{ℕ, ◌*◌, List, Bool}
use Rattle.vers_bits.specs.Bits.{block_count}
use Rattle.vers_tally.specs.Reads.{Reads, no_reads}

-- the list of bits, its remaining positions, and how many chunks are not loaded yet
pub record ChunksOf : Type 0 where
  pub bits : List Bool
  pub left : List ℕ
  pub unread : ℕ

-- how many chunks of 16 bits n bits fill
abbrev pub chunk_count : ℕ → ℕ
chunk_count n = block_count 16 n

-- bound on loading n chunks
abbrev pub chunk_reads : ℕ → Reads
chunk_reads n = record no_reads { data_words = 2 * n; rank_calls = 2 * n; chunks = n }
