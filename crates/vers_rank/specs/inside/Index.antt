-- What the entries of an index represent.
use Rattle.std.specs.Prelude.{◌≡◌, ℕ, ◌+◌, ◌-◌, ◌*◌, ◌/◌, ◌%◌, ◌^◌, ◌<◌, ◌≤◌, min, List, Bool, true, false, cond, length, slice_index, count_ones}
use Rattle.vers_bits.specs.Bits.{count, limb, block_count}
use Rattle.vers_rank.specs.declared.fast_rs_vec.TheConstants.{BLOCK, SUPERBLOCK, BLOCKS}
use Rattle.vers_rank.specs.Queries.{superblock_count, sample_count}

-- superblock s is the one in which the count of the bit b passes 8192 * j, or the last one
pub record IsSample (b : Bool) (l : List Bool) (j s : ℕ) : Type 0 where
  pub inside : SUPERBLOCK * s ≤ length l - 1
  pub low : count b l (SUPERBLOCK * s) ≤ SUPERBLOCK * j
  pub high : min (SUPERBLOCK * j) (count b l (length l)) ≤ count b l (SUPERBLOCK * (s + 1))

-- the samples of the bit b
pub record AreSamples (b : Bool) (l : List Bool) (samples : List ℕ) : Type 0 where
  pub counted : length samples ≡ sample_count l
  pub each : (j : ℕ) → j < length samples → IsSample b l j (slice_index samples j)

-- a block entry is the number of zeros of its superblock before the block, a superblock entry the number of zeros before it
pub record IsIndexed (l : List Bool) (blocks superblocks zero_samples one_samples : List ℕ) (zeros : ℕ) : Type 0 where
  pub bounded : length l ≤ 18446744073709551552
  pub blocks_counted : length blocks ≡ block_count BLOCK (length l)
  pub superblocks_counted : length superblocks ≡ superblock_count (length l)
  pub block_at : (k : ℕ) → BLOCK * k < length l → slice_index blocks k + count false l (SUPERBLOCK * (k / BLOCKS)) ≡ count false l (BLOCK * k)
  pub superblock_at : (k : ℕ) → SUPERBLOCK * k < length l → slice_index superblocks k ≡ count false l (SUPERBLOCK * k)
  pub zeros_counted : zeros ≡ count false l (length l)
  pub zeros_sampled : AreSamples false l zero_samples
  pub ones_sampled : AreSamples true l one_samples

-- the words are the 8 limbs of a block
abbrev pub AreLimbsOf : List Bool → ℕ → List ℕ → Type 0
AreLimbsOf l block limbs = (j : ℕ) → j < 8 → slice_index limbs j ≡ limb l (8 * block + j)

-- how many of n bits are b, if `ones` of them are ones
abbrev pub held_of : Bool → ℕ → ℕ → ℕ
held_of b ones n = cond b ones (n - ones)

-- how many of the first i positions have the bit, if zeros without end follow the list
unfoldable pub held : Bool → List Bool → ℕ → ℕ
held b l i = held_of b (count true l i) i

-- the same of the low j bits of a word
unfoldable pub held_in : Bool → ℕ → ℕ → ℕ
held_in b w j = held_of b (count_ones (w % 2 ^ j)) j

-- how many of the 512 * j positions of a superblock before its block number j have the bit, if z of them are zeros
abbrev pub held_before : Bool → ℕ → ℕ → ℕ
held_before b j z = cond b (BLOCK * j - z) z

-- the entries of the first n blocks and their superblocks
pub record AreEntries (l : List Bool) (n : ℕ) (blocks superblocks : List ℕ) : Type 0 where
  pub blocks_counted : length blocks ≡ n
  pub superblocks_counted : length superblocks ≡ block_count 16 n
  pub block_at : (k : ℕ) → k < n → slice_index blocks k + count false l (SUPERBLOCK * (k / BLOCKS)) ≡ count false l (BLOCK * k)
  pub superblock_at : (k : ℕ) → k < length superblocks → slice_index superblocks k ≡ count false l (SUPERBLOCK * k)

-- the first n samples
pub record AreFirstSamples (b : Bool) (l : List Bool) (n : ℕ) (samples : List ℕ) : Type 0 where
  pub counted : length samples ≡ n
  pub each : (j : ℕ) → j < n → IsSample b l j (slice_index samples j)

-- among the limbs of a block up to number last, the one with number r of the block's positions of the bit, or last; and how many of these positions precede it
pub record IsLimbWith (b : Bool) (l : List Bool) (block r last limb before : ℕ) : Type 0 where
  pub start : 8 * block ≤ limb
  pub inside : limb ≤ last
  pub counted : held b l (BLOCK * block) + before ≡ held b l (64 * limb)
  pub from : before ≤ r
  pub to : limb < last → held b l (BLOCK * block) + r < held b l (64 * (limb + 1))

-- the same among the n limbs from `limb` on, of a block of 8
pub record IsAmongLimbs (b : Bool) (l : List Bool) (block r n limb before : ℕ) : Type 0 where
  pub start : 8 * block ≤ limb
  pub inside : limb + n ≤ 8 * block + 8
  pub counted : held b l (BLOCK * block) + before ≡ held b l (64 * limb)
  pub from : before ≤ r
  pub few : before ≤ 64 * (limb - 8 * block)
  pub to : limb + n < 8 * block + 8 → held b l (BLOCK * block) + r < held b l (64 * (limb + n))
