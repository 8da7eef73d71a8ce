-- Lists of bits: their numbers, their counts, and the positions of their ones and zeros.
-- The contracts of every crate of the library use these words.
use Rattle.std.specs.Prelude.{ℕ, ◌+◌, ◌*◌, ◌/◌, ◌%◌, ◌==◌, ◌&&◌, Bool, false, not, List, [], ◌∷◌, map, length, take, drop, count_by, filter, find, flat_map, slice_index_or, nat_lt, nat_le, Option, None, Some, if◌then◌else◌}
use Rattle.std.specs.List.{range_with_len, last_or}
use Rattle.std.specs.Int.{bit_at, div_ceil}

-- a bit as a number: 1 for a one, 0 for a zero
abbrev pub bit_value : Bool → ℕ
bit_value bit = if bit then 1 else 0

-- the number whose binary digits are the bits, least significant first
abbrev pub number : List Bool → ℕ
number [] = 0
number (bit ∷ bits) = bit_value bit + 2 * number bits

-- the k least significant binary digits of v, least significant first
unfoldable pub low_bits : ℕ → ℕ → List Bool
low_bits v k = map (λ i. bit_at v i == 1) (range_with_len 0 k)

-- whether x equals `bit`
abbrev pub is_bit : Bool → Bool → Bool
is_bit bit x = if bit then x else not x

-- rank: how many of the first i bits equal `bit`
unfoldable pub count : Bool → List Bool → ℕ → ℕ
count bit bits i = count_by (is_bit bit) (take i bits)

-- the positions of all bits that equal `bit`, ascending
unfoldable pub positions : Bool → List Bool → List ℕ
positions bit bits = filter (λ p. is_bit bit (slice_index_or bits p false)) (range_with_len 0 (length bits))

-- the position of occurrence r of `bit`, from 0, or the length if there are at most r
unfoldable pub select : Bool → List Bool → ℕ → ℕ
select bit bits r = slice_index_or (positions bit bits) r (length bits)

-- the least position above p of a bit that equals `bit`
unfoldable pub position_after : Bool → List Bool → ℕ → Option ℕ
position_after bit bits p = find (λ q. nat_lt p q) (positions bit bits)

-- the greatest position below p of a bit that equals `bit`
unfoldable pub position_before : Bool → List Bool → ℕ → Option ℕ
position_before bit bits p = last_or None (filter (λ q. nat_lt q p) (positions bit bits))

-- the n bits from position p, or fewer at the end
abbrev pub part : List Bool → ℕ → ℕ → List Bool
part bits p n = take n (drop p bits)

-- the number of the n bits from position p; `None` if they exceed the list, or n is 0 or above 64
unfoldable pub part_number : List Bool → ℕ → ℕ → Option ℕ
part_number bits p n = if nat_le 1 n && (nat_le n 64 && nat_le (p + n) (length bits)) then Some (number (part bits p n)) else None

-- the k low digits of each element, one element after another
abbrev pub pack : List ℕ → ℕ → List Bool
pack items k = flat_map (λ v. low_bits v k) items

-- limb k: the number of the 64 bits from position 64 * k, or of fewer at the end
unfoldable pub limb : List Bool → ℕ → ℕ
limb bits k = number (part bits (64 * k) 64)

-- how many blocks of `size` n items fill, the last perhaps in part: n / size, rounded up
abbrev pub block_count : ℕ → ℕ → ℕ
block_count size n = div_ceil n size

-- how many limbs n bits fill
abbrev pub limb_count : ℕ → ℕ
limb_count n = block_count 64 n

-- all limbs of a list
unfoldable pub limbs : List Bool → List ℕ
limbs bits = map (limb bits) (range_with_len 0 (limb_count (length bits)))

-- what g makes of two lists of one length: bit p is bit p % 64 of the result of g for both limbs p / 64
unfoldable pub masked : (ℕ → ℕ → ℕ) → List Bool → List Bool → List Bool
masked g xs ys = map (λ p. bit_at (g (limb xs (p / 64)) (limb ys (p / 64))) (p % 64) == 1) (range_with_len 0 (length xs))
