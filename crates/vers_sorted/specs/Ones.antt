-- Lists of bits by the positions of their ones.
use Rattle.std.specs.Prelude.{◌≡◌, ℕ, ◌+◌, ◌<◌, All, Bool, false, List, map, slice_index_or}
use Rattle.std.specs.Int.{bit_at}
use Rattle.vers_bits.specs.Bits.{bit_value, is_bit}
use Rattle.std.specs.List.{range_with_len}
use Rattle.std.specs.List.Sorted.{IsStrictlyIncreasing}
use Rattle.vers_sorted.specs.Sorted.{is_element}

-- the list of n bits whose ones are at these positions
unfoldable pub ones_at : List ℕ → ℕ → List Bool
ones_at numbers n = map (is_element numbers) (range_with_len 0 n)

-- strictly ascending numbers below n
pub record AreSparse (numbers : List ℕ) (n : ℕ) : Type 0 where
  pub rising : IsStrictlyIncreasing numbers
  pub within : All (λ p. p < n) numbers

-- the n lowest digits of the word are 1 exactly for the ones (or zeros) among the n bits from position p
abbrev pub AreMarked : Bool → List Bool → ℕ → ℕ → ℕ → Type 0
AreMarked bit bits p n word = (i : ℕ) → i < n → bit_at word i ≡ bit_value (is_bit bit (slice_index_or bits (p + i) false))
