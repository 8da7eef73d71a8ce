-- How many bits the high and the low parts have at most.
use Rattle.vers_sorted.proofs.Names.{◌≡◌, ℕ, zero, suc, ◌+◌, ◌-◌, ◌*◌, ◌^◌, ◌<◌, ◌≤◌, List, length, ap, arith, max, inl, inr, div-le_of_le-mul, mul-le-mul_left, mul_comm, pow-le-pow_right, cases_lt, pow-add, clog, first_of, last_of, width, high_length, high_parts, clog_most, clog_least, clog_is_least, low_width, high_of}
use Rattle.vers_sorted.proofs.Split.{high_none, high_zeros}
use Rattle.vers_sorted.proofs.Holds.{length-high_parts}
use Rattle.vers_sorted.proofs.Widths.{width_enough, width_few}

-- the high part of the last element is at most the least power of two that isn't below the number of elements
high_few : (s : List ℕ) → high_of s (last_of s) ≤ 2 ^ clog (max (length s) 2)
unfolding high_of low_width
high_few s =
    let n : ℕ = length s in
    let u : ℕ = last_of s - first_of s in
    let up = pow-le-pow_right {n = 2} (omega arith) (width_enough n u) in
    div-le_of_le-mul (2 ^ width n u) (omega (arith, clog_most (max u 2), up, pow-add 2 (width n u) (clog (max n 2))))

high_length-le : (s : List ℕ) → high_length s ≤ 2 + length s + 2 ^ clog (max (length s) 2)
high_length-le s = grind (arith, high_zeros, high_few, high_none)

pub length-high_parts-le : (s : List ℕ) → length (high_parts s) ≤ 2 + length s + 2 ^ clog (max (length s) 2)
length-high_parts-le s = omega (arith, length-high_parts s, high_length-le s)

-- ---- of as many elements as memory holds

power_few : (n : ℕ) → n < 1152921504606846976 → 2 ^ clog (max n 2) ≤ 1152921504606846976
power_few n few =
    pow-le-pow_right {n = 2} (omega arith) {i = clog (max n 2)} {j = 60} (clog_least (max n 2) 60 (omega arith))

pub high_fits : (s : List ℕ) → length s < 1152921504606846976 → high_length s ≤ 2305843009213693954
high_fits s few = omega (arith, high_length-le s, power_few (length s) few)

grows : (m : ℕ) → m + 4 ≤ 2 ^ (m + 2)
grows zero = omega arith
grows (suc m) = grind (arith, grows m, grows m, pow-add 2 (m + 2) 1)

-- the more elements, the shorter their low parts
pub low_fits : (s : List ℕ) → length s < 1152921504606846976 → last_of s < 18446744073709551616 → length s * low_width s ≤ 4611686018427387904
unfolding low_width
low_fits s few small =
    let n : ℕ = length s in
    let w : ℕ = width n (last_of s - first_of s) in
    let c : ℕ = clog (max n 2) in
    let low : w + c ≤ 64 = width_few n (last_of s - first_of s) (omega arith) (omega arith) in
    let short : c ≤ 60 = clog_least (max n 2) 60 (omega arith) in
    let back : 60 - c + 4 ≤ 2 ^ (60 - c + 2) = grows (60 - c) in
    let narrow : w ≤ 2 ^ (60 - c + 2) = omega arith in
    let sum : c + (60 - c + 2) ≡ 62 = omega arith in
    omega (
      arith,
      clog_most (max n 2),
      mul-le-mul_left {m = w} {n = 2 ^ (60 - c + 2)} n narrow,
      mul-le-mul_left {m = n} {n = 2 ^ c} (2 ^ (60 - c + 2)) (omega (arith, clog_most (max n 2))),
      mul_comm (2 ^ (60 - c + 2)) n,
      mul_comm (2 ^ (60 - c + 2)) (2 ^ c),
      pow-add 2 c (60 - c + 2),
      ap (λ k. 2 ^ k) sum,
    )

pub ruleset laws = (clog_is_least, length-high_parts-le)
