-- Binary digits and powers of two.
use Rattle.vers_tally.proofs.Names.{◌≡◌, ℕ, zero, suc, ◌+◌, ◌-◌, ◌*◌, ◌/◌, ◌^◌, ◌<◌, ◌≤◌, ◌∙◌, inl, inr, arith, add-one, ◌↔◌, number_lt, number_digits_of, all_below_base_digits_of, cases_lt, clog}
use Rattle.std.specs.Int.Digits.{digits_of}
use Rattle.std.proofs.Math.Nat.{pow-suc, pow-le-pow_right}
use Rattle.std.proofs.lemmas.Nat.{pow_pos}
use Rattle.vers_tally.specs.Reads.{digits}
use Rattle.vers_tally.proofs.Halves.{digits_half, digits-le}

pub digits-lt : (n : ℕ) → n < 2 ^ digits n
unfolding digits
digits-lt n = omega (arith, number_lt 2 (digits_of 2 n) (all_below_base_digits_of 2 n (omega arith)), number_digits_of 2 n (omega arith))

-- the numbers of m digits
pub digits_is : (m n : ℕ) → n < 2 ^ m → 2 ^ m ≤ 2 * n + 1 → digits n ≡ m
digits_is zero n low high = omega (arith, digits-le 0 n low)
digits_is (suc m) n low high =
    omega (arith, digits_is m (n / 2) (omega (arith, pow-suc 2 m)) (omega (arith, pow-suc 2 m)), digits_half n (omega (arith, pow-suc 2 m, pow_pos m)))

pub pow_next : (k : ℕ) → 2 ^ (k + 1) ≡ 2 * 2 ^ k
pow_next k = rw add-one (pow-suc 2 k ∙ omega arith)

pub digits_pow : (k : ℕ) → digits (2 ^ k) ≡ k + 1
digits_pow k = digits_is (k + 1) (2 ^ k) (omega (arith, pow_next k, pow_pos k)) (omega (arith, pow_next k))

pub digits_below_pow : (k : ℕ) → digits (2 ^ k - 1) ≡ k
digits_below_pow k = digits_is k (2 ^ k - 1) (omega (arith, pow_pos k)) (omega (arith, pow_pos k))

-- ---- logarithms

pub clog_most : (n : ℕ) → n ≤ 2 ^ clog n
clog_most n = omega (arith, digits-lt (n - 1))

pub clog_least : (n k : ℕ) → n ≤ 2 ^ k → clog n ≤ k
clog_least n k h = digits-le k (n - 1) (omega (arith, pow_pos k))

pub clog_is_least : (n k : ℕ) → (n ≤ 2 ^ k) ↔ (clog n ≤ k)
clog_is_least n k = (clog_least n k, λ h. omega (arith, clog_most n, pow-le-pow_right {n = 2} (omega arith) {i = clog n} {j = k} h))

below_pow : (i j : ℕ) → 2 ^ i < 2 ^ (j + 1) → i ≤ j
below_pow i j h = elim (cases_lt j i) [
  | inl more ↦ absurd (omega (arith, h, pow-le-pow_right {n = 2} (omega arith) {i = j + 1} {j = i} (omega arith)))
  | inr less ↦ less
]

-- the one power of two between a number and less than its double
pub clog_is : (n k : ℕ) → n ≤ 2 ^ k → 2 ^ k < 2 * n → clog n ≡ k
clog_is n k up down =
    let more : k ≤ clog n = below_pow k (clog n) (omega (arith, pow_next (clog n), clog_most n, down)) in
    omega (arith, more, clog_least n k up)

pub clog_up : (n k : ℕ) → 2 ^ k ≤ n → k ≤ clog n
clog_up n k h = below_pow k (clog n) (omega (arith, pow_next (clog n), clog_most n, h, pow_pos (clog n)))
