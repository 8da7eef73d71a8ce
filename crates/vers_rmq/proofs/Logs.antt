-- Binary logarithms.
use Rattle.vers_rmq.proofs.Names.{◌≡◌, ℕ, ◌+◌, ◌-◌, ◌*◌, ◌%◌, ◌^◌, ◌<◌, ◌≤◌, arith, pow-suc, leading_top, one_shl, clog, count_leading_zeros, clog_is, digits-le, pow_next}

pub top_is : (a : ℕ) → 0 < a → a < 2 ^ 64 → (2 ^ (63 - count_leading_zeros 64 a) ≤ a) × (a < 2 * 2 ^ (63 - count_leading_zeros 64 a)) × (count_leading_zeros 64 a ≤ 63)
top_is a some few = let t = leading_top 64 a some few in grind (arith, pow-suc)

pub shifted : (k : ℕ) → k < 64 → (1 * 2 ^ k) % 2 ^ 64 ≡ 2 ^ k
shifted k h = one_shl k 64 h

-- as many levels as the top digit of n - 1 asks for
pub levels_are : (n k : ℕ) → 2 ≤ n → 2 ^ k ≤ n - 1 → n - 1 < 2 * 2 ^ k → k + 2 ≡ clog n + 1
levels_are n k some low high =
    let e : clog n ≡ k + 1 = clog_is n (k + 1) (omega (arith, pow_next k, high)) (omega (arith, pow_next k, low)) in omega (arith, e)

pub one_level : (n : ℕ) → n < 2 → 1 ≡ clog n + 1
one_level n few = let none : clog n ≤ 0 = digits-le 0 (n - 1) (omega arith) in omega (arith, none)

pub few_levels : (n : ℕ) → n < 2 ^ 32 → clog n ≤ 32
few_levels n h = digits-le 32 (n - 1) (omega (arith, h))
