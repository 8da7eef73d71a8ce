-- The excess along a list of parentheses (a one opens and a zero closes), and the positions at which it has risen by a number.
use Rattle.std.specs.Ordering.{int_eq}
use Rattle.std.specs.List.{range_with_len, last_or}
use Rattle.std.specs.Prelude.{if◌then◌else◌, ℕ, ◌+◌, ◌-◌, Bool, true, false, nat_lt, List, [], length, filter, find, slice_index_or, ℤ, pos, negsuc, ◌+ℤ◌, ◌-ℤ◌, Option, None}
use Rattle.vers_bits.specs.Bits.{count}

-- the ones less the zeros among the first i bits
unfoldable pub excess : List Bool → ℕ → ℤ
excess bits i = pos (count true bits i) -ℤ pos (count false bits i)

-- the first position after i past which the excess is r more than past i
unfoldable pub first_rise_after : List Bool → ℕ → ℤ → Option ℕ
first_rise_after bits i r =
    find (λ j. int_eq (excess bits (j + 1)) (excess bits (i + 1) +ℤ r)) (range_with_len (i + 1) (length bits - (i + 1)))

-- the positions before i, and none if the list has no position i
abbrev pub positions_below : List Bool → ℕ → List ℕ
positions_below bits i = if nat_lt i (length bits) then range_with_len 0 i else []

-- the last position before i before which the excess is r more than before i
unfoldable pub last_rise_before : List Bool → ℕ → ℤ → Option ℕ
last_rise_before bits i r = last_or None (filter (λ j. int_eq (excess bits j) (excess bits i +ℤ r)) (positions_below bits i))

-- the position that opens the nearest pair around the bit at i, in a balanced list
unfoldable pub enclosing : List Bool → ℕ → Option ℕ
enclosing bits i = last_rise_before bits i (if slice_index_or bits i false then negsuc 0 else negsuc 1)

-- what one bit adds to the excess
abbrev pub bit_step : Bool → ℤ
bit_step true = pos 1
bit_step false = negsuc 0
