-- Lists of 64 bit words, and the bits in them.
use Rattle.std.specs.Prelude.{◌≡◌, ℕ, ◌+◌, ◌/◌, ◌%◌, ◌<◌, ◌≤◌, ◌==◌, Bool, false, List, map, length, slice_index, slice_index_or}
use Rattle.std.specs.List.{range_with_len}
use Rattle.std.specs.Int.{bit_at}
use Rattle.vers_bits.specs.Bits.{limb_count}

-- position i of a list of words, the least significant bit of each word first
abbrev pub word_bit : List ℕ → ℕ → Bool
word_bit words i = bit_at (slice_index words (i / 64)) (i % 64) == 1

-- the first n bits of the words
unfoldable pub word_bits : List ℕ → ℕ → List Bool
word_bits words n = map (word_bit words) (range_with_len 0 n)

-- the words are as many as n bits need, and have no one past them
pub record HoldsBits (words : List ℕ) (n : ℕ) : Type 0 where
  pub counted : length words ≡ limb_count n
  pub bounded : n ≤ 18446744073709551552
  pub padded : (i : ℕ) → n ≤ i → word_bit words i ≡ false

-- the words vs have the first n bits of ws, and then the bit b
pub record AddsBit (ws vs : List ℕ) (n : ℕ) (b : Bool) : Type 0 where
  pub counted : length vs ≡ limb_count (n + 1)
  pub here : word_bit vs n ≡ b
  pub others : (i : ℕ) → (i ≡ n → ⊥) → word_bit vs i ≡ word_bit ws i

-- the words represent the list, which has n bits, and have no one past it
pub record Holds (words : List ℕ) (n : ℕ) (bits : List Bool) : Type 0 where
  pub long : length bits ≡ n
  pub counted : length words ≡ limb_count n
  pub bounded : n ≤ 18446744073709551552
  pub each : (i : ℕ) → word_bit words i ≡ slice_index_or bits i false

-- the words vs are those of the first n bits of ws, and have no one past them
pub record CutsTo (ws vs : List ℕ) (n : ℕ) : Type 0 where
  pub counted : length vs ≡ limb_count n
  pub below : (i : ℕ) → i < n → word_bit vs i ≡ word_bit ws i
  pub padded : (i : ℕ) → n ≤ i → word_bit vs i ≡ false

-- the words vs are ws with the bit b at position p
pub record Puts (ws vs : List ℕ) (p : ℕ) (b : Bool) : Type 0 where
  pub counted : length vs ≡ length ws
  pub here : word_bit vs p ≡ b
  pub others : (i : ℕ) → (i ≡ p → ⊥) → word_bit vs i ≡ word_bit ws i
