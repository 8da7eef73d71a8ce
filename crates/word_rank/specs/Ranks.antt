-- What a rank of a list of bits with counted words reads, and what the list takes.
use Rattle.std.specs.Prelude.{ℕ, ◌+◌, ◌*◌}
use Rattle.vers_bits.specs.Bits.{block_count, limb_count}
use Rattle.vers_tally.specs.Reads.{Reads, no_reads}
use Rattle.word_rank.specs.declared.rank.TheConstants.{SUPERBLOCK}

-- bound on one rank, with or without the bit
abbrev pub word_rank_reads : Reads
word_rank_reads = record no_reads { data_words = 1; block_entries = 1; superblock_entries = 1 }

-- the bytes of n bits with their counts: 8 for each word, 2 for its count, and 8 for each superblock of 32,768 bits
abbrev pub word_rank_size : ℕ → ℕ
word_rank_size n = 8 * limb_count n + 2 * limb_count n + 8 * block_count SUPERBLOCK n
