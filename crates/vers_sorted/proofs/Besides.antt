-- The ones beside a position, by the number of the bits there, and the elements beside a bucket.
use Rattle.vers_sorted.proofs.Names.{◌≡◌, ℕ, ◌+◌, ◌-◌, ◌<◌, ◌≤◌, Bool, true, false, List, length, take, drop, get_or, sym, ap, ◌∙◌, arith, Some, w64, bit_at, trailing_zeros, IsNonDecreasing, number, count, select, highest_bit, select_at, count_at_select, count_both, count_more_yes, part_bit, value_none, value_one, part_number_or_zero, first_of, last_of, high_of, high_parts, IsPacked, IsStart, IsBucket, Bucket, count_leading_zeros}
use Rattle.vers_sorted.proofs.Scans.{part_read, count_stays}
use Rattle.vers_sorted.proofs.Aheads.{small, lowest}
use Rattle.vers_sorted.proofs.Packed.{high_same}
use Rattle.vers_sorted.proofs.Split.{high_up}
use Rattle.vers_sorted.proofs.Buckets.{start_at, zeros_counted}

-- ---- the next one from a position on

module _ (l : List Bool) (from w : ℕ) (read : part_number_or_zero l from 64 ≡ Some w) (some : 0 < w) where
  here : (from + 64 ≤ length l) × (w ≡ number (take 64 (drop from l)))
  here = part_read l from w read

  found : (trailing_zeros w64 w < 64) × (get_or l (from + trailing_zeros w64 w) false ≡ true) × (count true l (from + trailing_zeros w64 w) ≡ count true l from)
  found = rw (here.1) (lowest l from 64 here.0 (omega arith) (omega (arith, here.1)))

  pub one_fits : from + trailing_zeros w64 w < length l
  one_fits = omega (arith, here.0, found.0)

  pub one_read : (k : ℕ) → count true l from ≡ k → from + trailing_zeros w64 w ≡ select true l k
  one_read k before = sym (select_at true l k (from + trailing_zeros w64 w) one_fits found.1 (found.2 ∙ before))

-- ---- the last one before a position

module _ (l : List Bool) (to w : ℕ) (far : 64 ≤ to) (read : part_number_or_zero l (to - 64) 64 ≡ Some w) (some : 0 < w) where
  part : (to - 64 + 64 ≤ length l) × (w ≡ number (take 64 (drop (to - 64) l)))
  part = part_read l (to - 64) w read

  highest : (count_leading_zeros 64 w < 64) × (bit_at w (63 - count_leading_zeros 64 w) ≡ 1) × ((i : ℕ) → 63 - count_leading_zeros 64 w < i → bit_at w i ≡ 0)
  highest = highest_bit w some (omega (arith, part.1, small l (to - 64) 64 part.0 (omega arith) (omega (arith, part.1))))

  bit_is : (i : ℕ) → i < 64 → (x : ℕ) → bit_at w i ≡ x → bit_at (number (take 64 (drop (to - 64) l))) i ≡ x
  bit_is i h x e = ap (λ n. bit_at n i) (sym part.1) ∙ e

  pub back_fits : count_leading_zeros 64 w < 64
  back_fits = highest.0

  pub one_back : (k : ℕ) → count true l to ≡ k + 1 → to - 1 - count_leading_zeros 64 w ≡ select true l k
  one_back k before =
      let z : ℕ = count_leading_zeros 64 w in
      let p : ℕ = to - 64 + (63 - z) in
      let at : to - 1 - z ≡ p = omega (arith, highest.0) in
      let rest : p + 1 + z ≡ to = omega (arith, highest.0) in
      let on : get_or l p false ≡ true =
      value_one (get_or l p false) (sym (part_bit l (to - 64) 64 (63 - z) (omega arith)) ∙ bit_is (63 - z) (omega arith) 1 highest.1) in
      let stays = count_stays true l (p + 1) z (omega (arith, part.0, highest.0)) (λ i less.
      let position : p + 1 + i ≡ to - 64 + (64 - z + i) = omega (arith, highest.0) in
      rw position (value_none _ (sym (part_bit l (to - 64) 64 (64 - z + i) (omega (arith, highest.0))) ∙ bit_is (64 - z + i) (omega (arith, highest.0)) 0 (highest.2 (64 - z + i) (omega (arith, highest.0)))))) in
      let past = count_more_yes true l p (omega (arith, part.0, highest.0)) on in
      at ∙ sym (select_at true l k p (omega (arith, part.0, highest.0)) on (omega (arith, past, stays, ap (count true l) rest, before)))

-- ---- the ones beside a bucket

-- up to the zero with number h, and past it, as many ones are as elements have a high part below h
ones_around : (s : List ℕ) (h start : ℕ) → IsNonDecreasing s → 0 < length s → h ≤ high_of s (last_of s) + 1 → IsStart s h start
    → (count true (high_parts s) (h + start) ≡ start) × (count true (high_parts s) (h + start + 1) ≡ start) × (h + start < length (high_parts s))
ones_around s h start up some within is =
    let zero = start_at s up h some within in
    let position : h + start ≡ select false (high_parts s) h = grind arith in
    grind (arith, count_both, count_at_select, zeros_counted)

module _ {s : List ℕ} {high low : List Bool} {first last width : ℕ} (packed : IsPacked s high low first last width) where
  pub ones_past : (v : ℕ) (bucket : Bucket) → first_of s ≤ v → v ≤ last_of s → IsBucket s v bucket → bucket.end < length s
      → (bucket.high + bucket.end + 2 ≤ length high) × (count true high (bucket.high + bucket.end + 2) ≡ bucket.end)
  ones_past v bucket from to is more =
      let around = ones_around s (high_of s v + 1) bucket.end packed.ascending (omega arith) (grind (arith, high_up)) is.end in
      grind (arith, high_same)

  pub ones_before : (v : ℕ) (bucket : Bucket) → first_of s ≤ v → v ≤ last_of s → IsBucket s v bucket → 0 < bucket.start
      → (bucket.high + (bucket.start - 1) + 1 ≤ length high) × (count true high (bucket.high + (bucket.start - 1) + 1) ≡ bucket.start - 1 + 1)
  ones_before v bucket from to is some =
      let around = ones_around s (high_of s v) bucket.start packed.ascending (omega (arith, is.start.within)) (grind (arith, high_up)) is.start in
      grind (arith, high_same)

pub ruleset ones_beside = (one_fits, one_read, back_fits, one_back)

pub ruleset beside = (ones_past, ones_before)
