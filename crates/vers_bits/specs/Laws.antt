-- The laws of lists of bits, as statements.
use Rattle.std.specs.Prelude.{◌≡◌, ℕ, ◌*◌, ◌-◌, ◌/◌, ◌%◌, ◌^◌, ◌<◌, ◌≤◌, ◌||◌, ◌&&◌, Bool, false, List, ◌++◌, length, take, drop, slice_index, slice_index_or, MatchOption, Some, bit_or, bit_and, bit_xor, ◌+◌, min, sum_by, true}
use Rattle.vers_bits.specs.Bits.{number, low_bits, pack, part_number, masked, is_bit, count, positions, select, position_after, position_before}
use Rattle.vers_bits.specs.Masks.{zip_bits, xor}
use Rattle.vers_bits.specs.Equality.{hash_input}

-- equal lists have equal `hash_input`
abbrev pub EqualListsHashEqually : Type 0
EqualListsHashEqually = (x y : List Bool) → x ≡ y → hash_input x ≡ hash_input y

-- the two parts of a split, joined, are the list
abbrev pub SplitListsJoin : Type 0
SplitListsJoin = (bits : List Bool) (at : ℕ) → take at bits ++ drop at bits ≡ bits

-- `low_bits v k` has k bits
abbrev pub LowBitsAreAsMany : Type 0
LowBitsAreAsMany = (v k : ℕ) → length (low_bits v k) ≡ k

-- the number of `low_bits v k` is `v % 2 ^ k`
abbrev pub LowBitsAreTheRest : Type 0
LowBitsAreTheRest = (v k : ℕ) → number (low_bits v k) ≡ v % 2 ^ k

-- the k low bits of v depend only on `v % 2 ^ k`
abbrev pub LowBitsOfRest : Type 0
LowBitsOfRest = (v k : ℕ) → low_bits (v % 2 ^ k) k ≡ low_bits v k

-- the j + k low bits of v are its j low bits and then the k low bits of `v / 2 ^ j`
abbrev pub LowBitsGoOn : Type 0
LowBitsGoOn = (v j k : ℕ) → low_bits v (j + k) ≡ low_bits v j ++ low_bits (v / 2 ^ j) k

-- a list of bits is the low bits of its number
abbrev pub BitsFollowFromNumber : Type 0
BitsFollowFromNumber = (bits : List Bool) → low_bits (number bits) (length bits) ≡ bits

-- a number is the sum of the powers of two at the positions of its ones
abbrev pub NumberIsSumOfPowers : Type 0
NumberIsSumOfPowers = (bits : List Bool) → number bits ≡ sum_by (λ i. 2 ^ i) (positions true bits)

-- element e of a packed list of 1 to 64 bits an element is element e modulo `2 ^ k`
abbrev pub PackedElementsAreItems : Type 0
PackedElementsAreItems = (items : List ℕ) (k e : ℕ) → 1 ≤ k → k ≤ 64 → e < length items
    → part_number (pack items k) (e * k) k ≡ Some (slice_index items e % 2 ^ k)

-- bit p of two lists combined bit by bit is f of both bits p
abbrev pub ZippedBitsAreCombined : Type 0
ZippedBitsAreCombined = (f : Bool → Bool → Bool) (xs ys : List Bool) (p : ℕ) → length xs ≡ length ys → p < length xs
    → slice_index_or (zip_bits f xs ys) p false ≡ f (slice_index_or xs p false) (slice_index_or ys p false)

-- the mask by `or` of limbs is the `or` of the bits
abbrev pub MaskOfOrIsOr : Type 0
MaskOfOrIsOr = (xs ys : List Bool) → length xs ≡ length ys → masked bit_or xs ys ≡ zip_bits (λ x y. x || y) xs ys

-- the mask by `and` of limbs is the `and` of the bits
abbrev pub MaskOfAndIsAnd : Type 0
MaskOfAndIsAnd = (xs ys : List Bool) → length xs ≡ length ys → masked bit_and xs ys ≡ zip_bits (λ x y. x && y) xs ys

-- the mask by `xor` of limbs is the `xor` of the bits
abbrev pub MaskOfXorIsXor : Type 0
MaskOfXorIsXor = (xs ys : List Bool) → length xs ≡ length ys → masked bit_xor xs ys ≡ zip_bits xor xs ys

-- each of the first i positions has a zero or a one
abbrev pub ZerosAndOnesAddUp : Type 0
ZerosAndOnesAddUp = (bits : List Bool) (i : ℕ) → count false bits i + count true bits i ≡ min i (length bits)

-- the bit at the selected position equals `bit`, and r such bits precede it
abbrev pub SelectFindsNumber : Type 0
SelectFindsNumber = (bit : Bool) (bits : List Bool) (r : ℕ) → r < count bit bits (length bits)
    → (count bit bits (select bit bits r) ≡ r) × (is_bit bit (slice_index_or bits (select bit bits r) false) ≡ true)

-- p is the first position from i whose bit equals `bit`, or the length if there is none
pub record IsNextPosition (bit : Bool) (bits : List Bool) (i p : ℕ) : Type 0 where
  pub from : i ≤ p
  pub within : p ≤ length bits
  pub none_between : (q : ℕ) → i ≤ q → q < p → is_bit bit (slice_index_or bits q false) ≡ false
  pub holds : p < length bits → is_bit bit (slice_index_or bits p false) ≡ true

-- select of the count before position i finds the next such bit from i, or the length
abbrev pub SelectOfCountIsNext : Type 0
SelectOfCountIsNext = (bit : Bool) (bits : List Bool) (i : ℕ) → i ≤ length bits → IsNextPosition bit bits i (select bit bits (count bit bits i))

-- a count never falls from a position to a later one
abbrev pub CountsGrow : Type 0
CountsGrow = (bit : Bool) (bits : List Bool) (i j : ℕ) → i ≤ j → count bit bits i ≤ count bit bits j

-- the count before a later position is the count before an earlier one plus the count between them
abbrev pub CountsOfSpansAddUp : Type 0
CountsOfSpansAddUp = (bit : Bool) (bits : List Bool) (i j : ℕ) → i ≤ j → count bit bits j ≡ count bit bits i + count bit (drop i bits) (j - i)

-- a count is at most the position and at most the length
abbrev pub CountsAreFew : Type 0
CountsAreFew = (bit : Bool) (bits : List Bool) (i : ℕ) → (count bit bits i ≤ i) × (count bit bits i ≤ length bits)

-- select is the length if there are at most r such bits
abbrev pub SelectPastLastIsLength : Type 0
SelectPastLastIsLength = (bit : Bool) (bits : List Bool) (r : ℕ) → count bit bits (length bits) ≤ r → select bit bits r ≡ length bits

-- no bit from position i to before position j equals `bit`
abbrev pub NoneFrom : Bool → List Bool → ℕ → ℕ → Type 0
NoneFrom bit bits i j = (q : ℕ) → i ≤ q → q < j → is_bit bit (slice_index_or bits q false) ≡ false

-- p is a position of the list, and its bit equals `bit`
abbrev pub HoldsAt : Bool → List Bool → ℕ → Type 0
HoldsAt bit bits p = (p < length bits) × (is_bit bit (slice_index_or bits p false) ≡ true)

-- no bit between a position and its neighbour above equals `bit`; without a neighbour, no bit above does
abbrev pub NoneUpToNeighbour : Type 0
NoneUpToNeighbour = (bit : Bool) (bits : List Bool) (p : ℕ)
    → MatchOption (position_after bit bits p) (NoneFrom bit bits (p + 1) (length bits)) (λ q. (p < q) × HoldsAt bit bits q × NoneFrom bit bits (p + 1) q)

-- no bit between a position and its neighbour below equals `bit`; without a neighbour, no bit below does
abbrev pub NoneDownToNeighbour : Type 0
NoneDownToNeighbour = (bit : Bool) (bits : List Bool) (p : ℕ)
    → MatchOption (position_before bit bits p) (NoneFrom bit bits 0 (min p (length bits))) (λ q. (q < p) × HoldsAt bit bits q × NoneFrom bit bits (q + 1) (min p (length bits)))
