-- What the counts of words and superblocks represent.
use Rattle.std.specs.Prelude.{◌≡◌, ℕ, ◌+◌, ◌*◌, ◌/◌, ◌<◌, ◌≤◌, List, Bool, true, length, slice_index}
use Rattle.vers_bits.specs.Bits.{count, block_count, limb_count}
use Rattle.word_rank.specs.declared.rank.TheConstants.{WORD, SUPERBLOCK, WORDS}

-- the counts of the first n words and their superblocks: the ones of its superblock before each word, and all ones before each superblock
pub record AreCounts (bits : List Bool) (n : ℕ) (words superblocks : List ℕ) : Type 0 where
  pub words_counted : length words ≡ n
  pub superblocks_counted : length superblocks ≡ block_count WORDS n
  pub word_at : (k : ℕ) → k < n → slice_index words k + count true bits (SUPERBLOCK * (k / WORDS)) ≡ count true bits (WORD * k)
  pub superblock_at : (k : ℕ) → k < length superblocks → slice_index superblocks k ≡ count true bits (SUPERBLOCK * k)

-- the counts of all words
pub record HasCounts (bits : List Bool) (words superblocks : List ℕ) : Type 0 where
  pub bounded : length bits ≤ 18446744073709551552
  pub counts : AreCounts bits (limb_count (length bits)) words superblocks
