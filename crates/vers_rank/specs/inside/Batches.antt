-- A search for many numbers, level by level: each is a position on the way, which encodes its number.
use Rattle.std.specs.Prelude.{◌≡◌, ℕ, ◌+◌, ◌*◌, ◌/◌, ◌%◌, ◌<◌, ◌≤◌, List, Bool, length}
use Rattle.vers_bits.specs.Bits.{count}
use Rattle.vers_tally.specs.Reads.{Reads, no_reads, digits}

-- the number that position p encodes in stretches of `size` bits: how many positions before its stretch have the bit, plus the offset of p in it
abbrev pub number_of : ℕ → Bool → List Bool → ℕ → ℕ
number_of size bit bits p = count bit bits (size * (p / size)) + p % size

-- position p encodes a number of its own stretch, or is past the end
abbrev pub IsIn : ℕ → Bool → List Bool → ℕ → Type 0
IsIn size bit bits p = p < length bits → number_of size bit bits p < count bit bits (size * (p / size + 1))

-- position p encodes number r in the stretch that has it; it is the length if no position has that number
pub record StandsFor (size : ℕ) (bit : Bool) (bits : List Bool) (r p : ℕ) : Type 0 where
  pub inside : r < count bit bits (length bits) → p < length bits
  pub number : r < count bit bits (length bits) → number_of size bit bits p ≡ r
  pub near : r < count bit bits (length bits) → r < count bit bits (size * (p / size + 1))
  pub past : count bit bits (length bits) ≤ r → p ≡ length bits

-- what the first level adds at most, by the number of superblocks
abbrev pub superblock_reads : ℕ → Reads
superblock_reads superblocks = record no_reads { superblock_entries = digits superblocks + 11; rank_calls = 1 }
