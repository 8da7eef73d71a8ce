-- The bounds of the queries.
use Rattle.vers_sorted.proofs.Names.{ℕ, ◌+◌, ◌*◌, ◌≤◌, arith, mul-le-mul_left, mul_comm, AddsAtMost, reads, only_low_parts, adds_then, Reads}

-- a row that allows 8 calls and more has room for 4
pub few_calls : (d x : ℕ) → 4 * x ≤ (d + 8) * x
few_calls d x = omega (arith, mul-le-mul_left {m = 4} {n = d + 8} x (omega arith), mul_comm x 4, mul_comm x (d + 8))

-- queries of the high parts, and one low part after them
pub part_after : {a b c : Reads} (m n : ℕ) → AddsAtMost a b (reads 0 m n) → AddsAtMost b c (only_low_parts 1) → AddsAtMost a c (reads 1 m n)
part_after m n s t = adds_then s t (grind arith)

pub ruleset bounds = (few_calls)
