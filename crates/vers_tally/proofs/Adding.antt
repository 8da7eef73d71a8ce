-- Bounds on reads, one after another.
use Rattle.vers_tally.proofs.Names.{arith, Reads, no_reads, AddsAtMost, IsWithin, plus}

pub adds_nothing : (a : Reads) → AddsAtMost a a no_reads
adds_nothing a = grind arith

-- two stretches of reads, within a bound on both
pub adds_then : {a b c p q r : Reads} → AddsAtMost a b p → AddsAtMost b c q → IsWithin (plus p q) r → AddsAtMost a c r
adds_then s t h = grind arith

-- a greater bound
pub adds_weaker : {a b p q : Reads} → AddsAtMost a b p → IsWithin p q → AddsAtMost a b q
adds_weaker s h = grind arith

pub within_itself : (p : Reads) → IsWithin p p
within_itself p = grind arith

-- the sum of two bounds
pub adds_plus : (a b c p q : Reads) → AddsAtMost a b p → AddsAtMost b c q → AddsAtMost a c (plus p q)
adds_plus a b c p q s t = adds_then s t (within_itself (plus p q))

pub adds_greater : (a b p q : Reads) → AddsAtMost a b p → IsWithin p q → AddsAtMost a b q
adds_greater a b p q s h = adds_weaker s h

pub ruleset bounds = (adds_nothing, adds_plus, adds_greater)
