-- Where the elements with one high part begin and end.
use Rattle.vers_sorted.proofs.Names.{◌≡◌, ℕ, ◌+◌, ◌-◌, ◌*◌, ◌/◌, ◌%◌, ◌^◌, ◌<◌, ◌≤◌, Bool, true, false, List, length, refl, ap, ◌∙◌, arith, inl, inr, slice_index, bit_and, IsNonDecreasing, and_mask, one_shl, cases_lt, count, select, count_both, count_up, count_at_select, select_below, select_not_below, digits, digits_halved, digits_up, below, first_of, last_of, low_width, high_position, high_parts, IsPacked, IsStart, IsBucket, Bucket, IsBetween, high_of, low_of}
use Rattle.vers_sorted.proofs.Below.{below_le, below_from, below_to, below_before, below_after}
use Rattle.vers_sorted.proofs.Split.{high_up, element_from, high_zeros}
use Rattle.vers_sorted.proofs.Holds.{hold_high}
use Rattle.vers_sorted.proofs.Packed.{high_same, high_counted}

module _ (s : List ℕ) (up : IsNonDecreasing s) where
  pub zeros_counted : 0 < length s → count false (high_parts s) (length (high_parts s)) ≡ 2 + high_of s (last_of s)
  zeros_counted some = omega (arith, count_both (high_parts s) (length (high_parts s)), (hold_high s up).ones, (hold_high s up).total, high_zeros s some)

  -- the zeros and ones up to the position of an element
  zeros_at_element : (i : ℕ) → i < length s → count false (high_parts s) (high_position s i) ≡ high_of s (slice_index s i) + 1
  zeros_at_element i h =
      let at = count_at_select true (high_parts s) i (omega (arith, (hold_high s up).ones)) in
      omega (arith, count_both (high_parts s) (high_position s i), at.0, at.1, (hold_high s up).position i h, ap (count true (high_parts s)) ((hold_high s up).position i h))

  -- zero number h has as many ones below it as elements have a high part below h
  pub start_at : (h : ℕ) → 0 < length s → h ≤ high_of s (last_of s) + 1 → (h ≤ select false (high_parts s) h) × IsStart s h (select false (high_parts s) h - h)
  start_at h some within =
      let holds = hold_high s up in
      let q : ℕ = select false (high_parts s) h in
      let at = count_at_select false (high_parts s) h (omega (arith, zeros_counted some)) in
      let ones : count true (high_parts s) q + h ≡ q = omega (arith, count_both (high_parts s) q, at.0, at.1) in
      let few : q - h ≤ length s = omega (arith, holds.ones, count_up true (high_parts s) q (length (high_parts s)) (omega (arith, at.0))) in (
        omega arith,
        record {
          within = few;
          before = λ i small.
              let left = select_below true (high_parts s) i q (omega arith) in
              omega (arith, zeros_at_element i (omega arith), holds.position i (omega arith), at.1, count_up false (high_parts s) (high_position s i) q (omega (arith, holds.position i (omega arith))));
          after = λ i large short.
              let right = select_not_below true (high_parts s) i (q + 1) (omega (arith, holds.ones)) (omega (arith, count_both (high_parts s) (q + 1), at.2)) in
              omega (arith, zeros_at_element i short, holds.position i short, at.2, count_up false (high_parts s) (q + 1) (high_position s i) (omega (arith, holds.position i short)));
        },
      )

  -- the zeros before and after the elements with the high part of v
  pub zeros_from : (v : ℕ) → 0 < length s → first_of s ≤ v → v ≤ last_of s
      → (high_of s v ≤ select false (high_parts s) (high_of s v)) × (high_of s v + 1 ≤ select false (high_parts s) (high_of s v + 1))
  zeros_from v some from to = grind (arith, high_up, start_at)

  -- and the bucket between them
  pub bucket_is : (v h before after : ℕ) → h ≡ high_of s v → 0 < length s → first_of s ≤ v → v ≤ last_of s
      → before ≡ select false (high_parts s) (high_of s v) → after ≡ select false (high_parts s) (high_of s v + 1)
      → IsBucket s v (record { high = h; start = before - h; end = after - h - 1 })
  bucket_is v h before after is some from to b a = grind (arith, high_up, start_at)

-- ---- from high parts to the elements themselves

pub start_below : (s : List ℕ) (v start : ℕ) → IsNonDecreasing s → first_of s ≤ v → IsStart s (high_of s v) start → start ≤ below s v
start_below s v start up from at = grind (arith, high_up, below_after)

pub below_end : (s : List ℕ) (v end : ℕ) → IsNonDecreasing s → first_of s ≤ v → IsStart s (high_of s v + 1) end → below s v ≤ end
below_end s v end up from at = grind (arith, below_le, below_before, high_up, element_from)

-- an element with the same high part, by its low part
pub step_up : (s : List ℕ) (v i : ℕ) → IsNonDecreasing s → i < length s → high_of s (slice_index s i) ≡ high_of s v → low_of s (slice_index s i) < low_of s v → i + 1 ≤ below s v
unfolding high_of low_of
step_up s v i up h same less = grind (arith, below_from)

pub step_down : (s : List ℕ) (v i : ℕ) → IsNonDecreasing s → first_of s ≤ v → i < length s → high_of s (slice_index s i) ≡ high_of s v → low_of s v ≤ low_of s (slice_index s i) → below s v ≤ i
unfolding high_of low_of
step_down s v i up from h same more = grind (arith, below_to)

-- the parts of the number that is looked for
pub high_is : {s : List ℕ} {high low : List Bool} {first last width : ℕ} (v : ℕ) → IsPacked s high low first last width → (v - first) / 2 ^ width ≡ high_of s v
unfolding high_of
high_is {s} {first} {width} v packed = grind (arith)

pub low_is : {s : List ℕ} {high low : List Bool} {first last width : ℕ} (v : ℕ) → IsPacked s high low first last width
    → bit_and (v - first) (1 * 2 ^ width % 18446744073709551616 - 1) ≡ low_of s v
unfolding low_of
low_is {s} {first} {last} {width} v packed = grind (arith, one_shl width 64 packed.narrow, and_mask)

-- ---- buckets

-- the zero after that with the high part of v is among the high parts
pub high_below : {s : List ℕ} {high low : List Bool} {first last width : ℕ} (v : ℕ) → IsPacked s high low first last width → 0 < length s → first_of s ≤ v → v ≤ last_of s
    → high_of s v + 1 < count false high (length high)
high_below {s} v packed some from to = rw (high_same packed) (omega (arith, zeros_counted s packed.ascending some, high_up s v (last_of s) to from))

pub in_bucket : {s : List ℕ} {v : ℕ} {bucket : Bucket} (i : ℕ) → IsBucket s v bucket → bucket.start ≤ i → i < bucket.end → i < length s → bucket.high ≡ high_of s (slice_index s i)
in_bucket i at low high h = omega (arith, at.high, at.start.after i low h, at.end.before i high)

pub ruleset bucket = (high_below, zeros_from, bucket_is)

pub ruleset search_steps = (start_below, below_end, step_up, step_down, digits_halved, digits_up)

pub ruleset elements = (in_bucket)

pub ruleset ends = (below_le, high_counted)

pub ruleset sides = (start_below, below_end, in_bucket, below_le)
