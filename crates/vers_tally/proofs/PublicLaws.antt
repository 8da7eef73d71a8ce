-- The laws that proofs of other crates may cite. A crate above imports this file and no other of this folder.
use Rattle.vers_tally.proofs.Names.{◌≡◌, ℕ, ◌+◌, ◌-◌, ◌*◌, ◌/◌, ◌^◌, ◌<◌, ◌≤◌, ◌↔◌, Reads, no_reads, AddsAtMost, IsWithin, plus, digits, clog}
use Rattle.vers_tally.proofs.Adding as Adding
use Rattle.vers_tally.proofs.Halves as Halves
use Rattle.vers_tally.proofs.Logs as Logs

-- ---- bounds on reads

-- what reads nothing adds nothing
pub adds_nothing : (a : Reads) → AddsAtMost a a no_reads
adds_nothing = Adding.adds_nothing

-- two stretches of reads, one after the other, within a bound on both
pub adds_then : {a b c p q r : Reads} → AddsAtMost a b p → AddsAtMost b c q → IsWithin (plus p q) r → AddsAtMost a c r
adds_then s t h = Adding.adds_then s t h

-- a greater bound holds too
pub adds_weaker : {a b p q : Reads} → AddsAtMost a b p → IsWithin p q → AddsAtMost a b q
adds_weaker s h = Adding.adds_weaker s h

-- a bound is within itself
pub within_itself : (p : Reads) → IsWithin p p
within_itself = Adding.within_itself

-- ---- binary digits

-- half a number has a digit less
pub digits_half : (n : ℕ) → 0 < n → digits n ≡ digits (n / 2) + 1
digits_half = Halves.digits_half

pub digits_halved : (v w : ℕ) → 0 < w → v ≤ w / 2 → digits v + 1 ≤ digits w
digits_halved = Halves.digits_halved

-- fewer than 2 ^ k has at most k digits
pub digits-le : (k n : ℕ) → n < 2 ^ k → digits n ≤ k
digits-le = Halves.digits-le

-- a greater number has no fewer digits
pub digits_up : (m n : ℕ) → m ≤ n → digits m ≤ digits n
digits_up = Halves.digits_up

-- a number is below two to the number of its digits
pub digits-lt : (n : ℕ) → n < 2 ^ digits n
digits-lt = Logs.digits-lt

-- the numbers of m digits
pub digits_is : (m n : ℕ) → n < 2 ^ m → 2 ^ m ≤ 2 * n + 1 → digits n ≡ m
digits_is = Logs.digits_is

-- the next power of two is the double
pub pow_next : (k : ℕ) → 2 ^ (k + 1) ≡ 2 * 2 ^ k
pow_next = Logs.pow_next

-- the digits of a power of two, and of the number before it
pub digits_pow : (k : ℕ) → digits (2 ^ k) ≡ k + 1
digits_pow = Logs.digits_pow

pub digits_below_pow : (k : ℕ) → digits (2 ^ k - 1) ≡ k
digits_below_pow = Logs.digits_below_pow

-- ---- logarithms

-- 2 ^ clog n is not below n, and is the least such power
pub clog_most : (n : ℕ) → n ≤ 2 ^ clog n
clog_most = Logs.clog_most

pub clog_least : (n k : ℕ) → n ≤ 2 ^ k → clog n ≤ k
clog_least = Logs.clog_least

pub clog_is_least : (n k : ℕ) → (n ≤ 2 ^ k) ↔ (clog n ≤ k)
clog_is_least = Logs.clog_is_least

-- the one power of two that is not below a number and below its double
pub clog_is : (n k : ℕ) → n ≤ 2 ^ k → 2 ^ k < 2 * n → clog n ≡ k
clog_is = Logs.clog_is

-- a power of two that is not above a number
pub clog_up : (n k : ℕ) → 2 ^ k ≤ n → k ≤ clog n
clog_up = Logs.clog_up
