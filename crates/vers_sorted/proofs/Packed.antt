-- What the fields of a packed list state about its elements.
use Rattle.vers_sorted.proofs.Names.{◌≡◌, ℕ, ◌+◌, ◌*◌, ◌%◌, ◌^◌, ◌<◌, ◌≤◌, Bool, true, List, length, take, drop, refl, arith, Some, None, slice_index, slice_get, bit_or, IsNonDecreasing, mul-le-mul_left, mul_comm, mod-eq_of_lt, or_shifted, slice_get-get_or, slice_get_past, length-map-range_with_len, select, number, limb_count, count_both, index_size, first_of, last_of, low_width, high_of, low_of, high_length, high_parts, low_parts, heap_size_of, element, IsPacked, elements, AreHighParts}
use Rattle.vers_sorted.proofs.Split.{parts_sum, low_below}
use Rattle.vers_sorted.proofs.Holds.{hold_high, hold_low, packs}

pub length-elements : (high low : List Bool) (first width n : ℕ) → length (elements high low first width n) ≡ n
unfolding elements
length-elements high low first width n = length-map-range_with_len (element high low first width) 0 n

-- the parts of an ascending list have it
pub packed_as : (s : List ℕ) (first last width : ℕ) → IsNonDecreasing s → first ≡ first_of s → last ≡ last_of s → last < 18446744073709551616 → width ≡ low_width s → width < 64
    → (elements (high_parts s) (low_parts s) first width (length s) ≡ s) × IsPacked (elements (high_parts s) (low_parts s) first width (length s)) (high_parts s) (low_parts s) first last width
unfolding AreHighParts
packed_as s first last width up f l fits w narrow =
    let back : elements (high_parts s) (low_parts s) first width (length s) ≡ s = rw (f, w) (packs s up) in
    (back, rw back (record { ascending = up; first_is = f; last_is = l; fits = fits; width_is = w; narrow = narrow; high_parts = hold_high s up; low_parts = hold_low s; laid_out = refl }))

pub high_same : {s : List ℕ} {high low : List Bool} {first last width : ℕ} → IsPacked s high low first last width → high ≡ high_parts s
unfolding AreHighParts
high_same packed = packed.laid_out

-- ---- the low part

pub low_within : {s : List ℕ} {high low : List Bool} {first last width : ℕ} (i : ℕ) → IsPacked s high low first last width → i < length s → i * width + width ≤ length low
low_within {s} {width} i packed h = grind (arith, mul-le-mul_left, mul_comm)

pub low_read : {s : List ℕ} {high low : List Bool} {first last width : ℕ} (i : ℕ) → IsPacked s high low first last width → i < length s
    → number (take width (drop (i * width) low)) ≡ low_of s (slice_index s i)
low_read {s} {low} {width} i packed h = grind (arith, mul_comm)

-- ---- the high part

pub high_counted : {s : List ℕ} {high low : List Bool} {first last width : ℕ} → IsPacked s high low first last width → length high ≡ high_length s
high_counted packed = packed.high_parts.total

pub high_at : {s : List ℕ} {high low : List Bool} {first last width : ℕ} (i : ℕ) → IsPacked s high low first last width → i < length s
    → select true high i ≡ high_of s (slice_index s i) + i + 1
high_at i packed h = packed.high_parts.position i h

-- ---- both

pub in_order : {s : List ℕ} {high low : List Bool} {first last width : ℕ} (i : ℕ) → IsPacked s high low first last width → i < length s
    → (first ≤ slice_index s i) × (slice_index s i ≤ last)
in_order {s} i packed h = grind (arith)

pub joined : {s : List ℕ} {high low : List Bool} {first last width : ℕ} (i : ℕ) → IsPacked s high low first last width → i < length s
    → (first + bit_or (high_of s (slice_index s i) * 2 ^ width % 18446744073709551616) (low_of s (slice_index s i)) ≡ slice_index s i)
joined {s} {first} {last} {width} i packed h = grind (arith, in_order, parts_sum, mod-eq_of_lt, or_shifted, low_below)

-- ---- sizes

pub size_is : {s : List ℕ} {high low : List Bool} {first last width : ℕ} → IsPacked s high low first last width → index_size high + 8 * limb_count (length low) ≡ heap_size_of s
size_is {s} packed = rw (high_same packed, packed.low_parts.counted, (hold_low s).counted) refl

pub index_fits : (l : List Bool) → length l ≤ 18446744073709551552 → index_size l ≤ 4611686018427387904
index_fits l h = omega (arith, count_both l (length l))

pub ruleset sizes = (size_is, index_fits)

pub ruleset packed = (length-elements)

pub ruleset low_parts_read = (low_read, low_within)

pub ruleset high_parts_read = (high_at, high_counted)

pub ruleset gets = (slice_get-get_or, slice_get_past)

pub ruleset joined_parts = (joined, in_order)
