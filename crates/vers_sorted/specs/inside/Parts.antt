-- The high and low parts.
use Rattle.std.specs.Prelude.{◌≡◌, ℕ, ◌+◌, ◌-◌, ◌*◌, ◌<◌, ◌≤◌, Bool, true, List, map, length, take, drop, slice_index}
use Rattle.std.specs.List.{range_with_len}
use Rattle.std.specs.List.Sorted.{IsNonDecreasing}
use Rattle.vers_bits.specs.Bits.{number, count, select, pack}
use Rattle.vers_tally.specs.Reads.{Reads, no_reads, digits}
use Rattle.vers_rank.specs.Queries.{superblock_count}
use Rattle.vers_sorted.specs.Layout.{first_of, last_of, low_width, high_of, low_of, high_length, high_position, high_parts}
use Rattle.vers_sorted.specs.Ones.{ones_at}

-- the high parts of s: a one for each element
pub record HoldHigh (s : List ℕ) (high : List Bool) : Type 0 where
  pub ones : count true high (length high) ≡ length s
  pub total : length high ≡ high_length s
  pub position : (i : ℕ) → i < length s → select true high i ≡ high_of s (slice_index s i) + i + 1

-- the low parts of s
pub record HoldLow (s : List ℕ) (low : List Bool) : Type 0 where
  pub counted : length low ≡ low_width s * length s
  pub part : (i : ℕ) → i < length s → number (take (low_width s) (drop (low_width s * i) low)) ≡ low_of s (slice_index s i)

-- the high parts before any but the first i elements have their ones
unfoldable pub first_high_parts : List ℕ → ℕ → List Bool
first_high_parts s i = ones_at (map (high_position s) (range_with_len 0 i)) (high_length s)

-- the low parts of the first i elements
unfoldable pub first_low_parts : List ℕ → ℕ → List Bool
first_low_parts s i = pack (map (λ m. m - first_of s) (take i s)) (low_width s)

-- they are those of the layout
unfoldable pub AreHighParts : List ℕ → List Bool → Type 0
AreHighParts s high = high ≡ high_parts s

-- the parts represent the list s
pub record IsPacked (s : List ℕ) (high low : List Bool) (first last width : ℕ) : Type 0 where
  pub ascending : IsNonDecreasing s
  pub first_is : first ≡ first_of s
  pub last_is : last ≡ last_of s
  pub fits : last < 18446744073709551616
  pub width_is : width ≡ low_width s
  pub narrow : width < 64
  pub high_parts : HoldHigh s high
  pub low_parts : HoldLow s low
  pub laid_out : AreHighParts s high

-- start is the number of elements whose high part is below h
pub record IsStart (s : List ℕ) (h start : ℕ) : Type 0 where
  pub within : start ≤ length s
  pub before : (i : ℕ) → i < start → high_of s (slice_index s i) < h
  pub after : (i : ℕ) → start ≤ i → i < length s → h ≤ high_of s (slice_index s i)

-- what m selects of n bits may read, and k low parts
abbrev pub reads : ℕ → ℕ → ℕ → Reads
reads k m n = record no_reads { low_parts = k; rank_calls = m; data_words = m * 8; block_entries = m * 17; superblock_entries = m * (digits (superblock_count n) + 12) }
