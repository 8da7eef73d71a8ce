-- The parts of the words of an ascending list.
use Rattle.std.specs.Prelude.{◌≡◌, ℕ, ◌+◌, ◌-◌, ◌≤◌, List, drop, length, slice_index}
use Rattle.vers_bits.specs.Bits.{limb_count}
use Rattle.vers_sorted.specs.Layout.{low_count, high_count}
use Rattle.vers_saved.specs.Kinds.{AreWords, EndsPadded}

-- the words from one of them on have that many bits, and no one past them in the last
pub record AreBitsIn (words : List ℕ) (from bits : ℕ) : Type 0 where
  pub within : from + limb_count bits ≤ length words
  pub small : length words ≤ 288230376151711743
  pub fit : AreWords words
  pub padded : EndsPadded bits (drop from words)

-- the first three words are these ends, and the others as many as the limbs of the parts
pub record AreEndsOf (words : List ℕ) (n first last low high : ℕ) : Type 0 where
  pub len_is : n ≡ slice_index words 0
  pub first_is : first ≡ slice_index words 1
  pub last_is : last ≡ slice_index words 2
  pub low_is : low ≡ low_count n (last - first)
  pub high_is : high ≡ high_count n (last - first)
  pub long : length words ≡ 3 + (limb_count low + limb_count high)
