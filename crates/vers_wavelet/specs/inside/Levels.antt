-- The levels of a list of symbols: a list of bits for each digit, the highest first, and each next list after a stable
-- sort by the bits of the one before, zeros first. Any lists of bits of one length are the levels of a list of symbols.
use Rattle.std.specs.Prelude.{◌≡◌, ℕ, ◌+◌, ◌*◌, ◌^◌, ◌≤◌, Bool, false, cond, List, [], ◌∷◌, map, length, slice_index_or}
use Rattle.std.specs.List.{range_with_len}
use Rattle.vers_bits.specs.Bits.{bit_value, count}
use Rattle.vers_wavelet.specs.Makers.{digit, AllHaveLength}

-- the position in the next level of the first element with the bit: 0 for zeros, which come first, and the number of
-- zeros for ones
abbrev pub start : Bool → List Bool → ℕ
start bit l = cond bit (count false l (length l)) 0

-- the position in the next level of the first element with the bit among those from position i: the position of
-- element i there, if that has the bit
unfoldable pub next : Bool → List Bool → ℕ → ℕ
next bit l i = start bit l + count bit l i

-- the symbol at position i: its highest digit is the bit there, and the next levels have the other digits
unfoldable pub value : List (List Bool) → ℕ → ℕ
value [] i = 0
value (l ∷ ls) i = bit_value (slice_index_or l i false) * 2 ^ length ls + value ls (next (slice_index_or l i false) l i)

-- the symbols at the first n positions
unfoldable pub values : List (List Bool) → ℕ → List ℕ
values ls n = map (value ls) (range_with_len 0 n)

-- the levels of n symbols: each has n bits, symbols of no digits are an empty list, and both numbers fit the machine's
pub record AreLevels (ls : List (List Bool)) (n : ℕ) : Type 0 where
  pub even : AllHaveLength ls n
  pub none : length ls ≡ 0 → n ≡ 0
  pub bounded : n ≤ 18446744073709551552
  pub narrow : length ls ≤ 65535

-- the final position of a symbol s from position i: the position, in the order after all levels, of the first s among
-- the symbols from position i, or the one that it would have; each level leads to the next by its digit of s
unfoldable pub final_position : List (List Bool) → ℕ → ℕ → ℕ
final_position [] s i = i
final_position (l ∷ ls) s i = final_position ls s (next (digit s (length ls)) l i)
