-- What the high and low parts of an ascending list state about its elements.
use Rattle.vers_sorted.proofs.Names.{◌≡◌, ℕ, ◌-◌, ◌*◌, ◌^◌, ◌<◌, true, List, length, take, drop, ap, ◌∙◌, arith, slice_index, map, range_with_len, IsNonDecreasing, IsStrictlyIncreasing, mul_comm, same_number_lists, length-map, get_or-map, length-map-range_with_len, get_or-map-range_with_len, low_bits, pack, select, number-low_bits, length-packed, first_of, low_width, high_of, high_length, high_position, element, HoldHigh, HoldLow, element_in_pack, low_of, high_parts, low_parts, elements}
use Rattle.vers_sorted.proofs.Ones.{length-ones_at, select-ones_at, all_ones}
use Rattle.vers_sorted.proofs.Split.{parts_sum, high_up, element_from, high_zeros}

-- ---- the high parts

abbrev positions_of : List ℕ → List ℕ
positions_of s = map (high_position s) (range_with_len 0 (length s))

length-positions_of : (s : List ℕ) → length (positions_of s) ≡ length s
length-positions_of s = length-map-range_with_len (high_position s) 0 (length s)

position_of : (s : List ℕ) (i : ℕ) → i < length s → slice_index (positions_of s) i ≡ high_position s i
position_of s i h = get_or-map-range_with_len (high_position s) 0 (length s) i i 0 h (omega arith)

positions_of-rise : (s : List ℕ) → IsNonDecreasing s → IsStrictlyIncreasing (positions_of s)
positions_of-rise s up k h = grind (arith, length-positions_of, position_of, high_up, element_from)

pub position_within : (s : List ℕ) → IsNonDecreasing s → (i : ℕ) → i < length s → high_position s i < high_length s
position_within s up i h = grind (arith, high_zeros, high_up, element_from)

pub length-high_parts : (s : List ℕ) → length (high_parts s) ≡ high_length s
unfolding high_parts
length-high_parts s = length-ones_at (positions_of s) (high_length s)

pub hold_high : (s : List ℕ) → IsNonDecreasing s → HoldHigh s (high_parts s)
unfolding high_parts
hold_high s up = grind (arith, all_ones, positions_of-rise, length-positions_of, position_of, position_within, length-high_parts, select-ones_at)

-- ---- the low parts

pub length-pack : (xs : List ℕ) (w : ℕ) → length (pack xs w) ≡ w * length xs
length-pack xs w = length-packed (λ v. v) w xs ∙ mul_comm (length xs) w

part-pack : (xs : List ℕ) (w i : ℕ) → i < length xs → take w (drop (w * i) (pack xs w)) ≡ low_bits (slice_index xs i) w
part-pack xs w i h = ap (λ p. take w (drop p (pack xs w))) (mul_comm w i) ∙ element_in_pack xs w i h

pub hold_low : (s : List ℕ) → HoldLow s (low_parts s)
unfolding low_parts low_of
hold_low s = grind (arith, length-pack, length-map, part-pack, number-low_bits, get_or-map)

-- ---- the parts give the elements back

pub packs : (s : List ℕ) → IsNonDecreasing s → elements (high_parts s) (low_parts s) (first_of s) (low_width s) (length s) ≡ s
unfolding elements
packs s up =
    let highs : HoldHigh s (high_parts s) = hold_high s up in
    let lows : HoldLow s (low_parts s) = hold_low s in
    same_number_lists _ s (length-map-range_with_len (element (high_parts s) (low_parts s) (first_of s) (low_width s)) 0 (length s))
    (λ k h.
    let short : k < length s = grind (arith, length-map-range_with_len, element) in
    let q : select true (high_parts s) k - k - 1 ≡ high_of s (slice_index s k) = omega (arith, highs.position k short) in
    rw (get_or-map-range_with_len (element (high_parts s) (low_parts s) (first_of s) (low_width s)) 0 (length s) k k 0 short (omega arith), q, lows.part k short)
    (omega (arith, parts_sum s (slice_index s k) (element_from s k up short), mul_comm (2 ^ low_width s) (high_of s (slice_index s k)), element_from s k up short)))
