-- What the queries of an indexed list of bits answer and read, and what its index takes.
use Rattle.std.specs.Prelude.{ℕ, ◌+◌, ◌*◌, ◌/◌, ◌&&◌, max, List, Bool, true, false, length, nat_le, Option, None, Some, if◌then◌else◌}
use Rattle.vers_bits.specs.Bits.{number, part, count, block_count, limb_count}
use Rattle.vers_rank.specs.declared.fast_rs_vec.TheConstants.{BLOCK, SUPERBLOCK}
use Rattle.vers_tally.specs.Reads.{Reads, no_reads, plus, digits}

-- the number of the n bits from position p, 0 if n is 0; `None` if they exceed the list or n is above 64
unfoldable pub part_number_or_zero : List Bool → ℕ → ℕ → Option ℕ
part_number_or_zero bits p n = if nat_le n 64 && nat_le (p + n) (length bits) then Some (number (part bits p n)) else None

-- how many superblocks of 8192 bits n bits fill
abbrev pub superblock_count : ℕ → ℕ
superblock_count n = block_count SUPERBLOCK n

-- how many select samples a list has: one for each 8192 of its zeros or ones, and two at the ends
abbrev pub sample_count : List Bool → ℕ
sample_count bits = max (count false bits (length bits)) (count true bits (length bits)) / SUPERBLOCK + 2

-- the bytes of a list with its index: 8 for each limb, 2 for each block of 512 bits, 8 for each superblock, 16 for each sample
abbrev pub index_size : List Bool → ℕ
index_size bits = 8 * limb_count (length bits) + 2 * block_count BLOCK (length bits) + 8 * superblock_count (length bits) + 16 * sample_count bits

-- bound on reading one bit
abbrev pub get_reads : Reads
get_reads = record no_reads { data_words = 1; rank_calls = 1 }

-- bound on reading up to 64 bits
abbrev pub get_bits_reads : Reads
get_bits_reads = record no_reads { data_words = 2; rank_calls = 1 }

-- bound on one rank
abbrev pub rank_reads : Reads
rank_reads = record no_reads { data_words = 8; block_entries = 1; superblock_entries = 1; rank_calls = 1 }

-- bound on one select, by the number of superblocks
abbrev pub select_reads : ℕ → Reads
select_reads superblocks = record no_reads { data_words = 8; block_entries = 17; superblock_entries = digits superblocks + 12; rank_calls = 1 }

-- bound on a successor or a predecessor: one rank and one select
abbrev pub neighbour_reads : ℕ → Reads
neighbour_reads superblocks = plus rank_reads (select_reads superblocks)
