-- The widths of low parts.
use Rattle.vers_sorted.proofs.Names.{◌≡◌, ℕ, ◌+◌, ◌-◌, ◌/◌, ◌<◌, ◌≤◌, arith, max, leading_length, digits, digits_half, digits-le, digits_up, digits_is, clog_least, clog, width}
use lib.Count.{count_leading_zeros}

pub digits_leading : (n : ℕ) → n < 340282366920938463463374607431768211456 → 128 - count_leading_zeros 128 n ≡ digits n
digits_leading n h =
    let found = leading_length 128 n h in
    omega (arith, found.1, digits_is found.0 n found.2 found.3)

pub clog_none : (n : ℕ) → n ≡ 0 → clog n ≡ 0
clog_none n e = let z : n - 1 ≡ 0 = omega arith in omega (arith, digits-le 0 (n - 1) (omega arith))

pub width_least : (n u : ℕ) → clog (max n 2) ≤ max (clog (max u 2)) (clog (n + 2))
width_least n u = omega (arith, digits_up (max n 2 - 1) (n + 2 - 1) (omega arith))

pub width_narrow : (n u : ℕ) → u < 18446744073709551616 → max (clog (max u 2)) (clog (n + 2)) - clog (max n 2) < 64
width_narrow n u h =
    let few : digits (max u 2 - 1) ≤ 64 = grind (arith, digits-le) in
    let some = digits_half (max n 2 - 1) (omega arith) in
    let step = digits_half (n + 2 - 1) (omega arith) in
    omega (arith, digits_up ((n + 2 - 1) / 2) (max n 2 - 1) (omega arith))

-- a low part has enough bits that a number that is u above 0 has no higher high part than a power of two allows
pub width_enough : (n u : ℕ) → clog (max u 2) ≤ width n u + clog (max n 2)
unfolding width
width_enough n u = omega arith

pub width_few : (n u : ℕ) → n + 2 ≤ 18446744073709551616 → u ≤ 18446744073709551616 → width n u + clog (max n 2) ≤ 64
unfolding width
width_few n u few h = omega (arith, width_least n u, clog_least (max u 2) 64 (omega arith), clog_least (n + 2) 64 (omega arith))

pub ruleset logs = (digits_leading, clog_none)

pub ruleset widths = (width_least, width_narrow)
