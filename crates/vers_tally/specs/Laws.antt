-- The laws of counting, as statements.
use Rattle.std.specs.Prelude.{◌≡◌, ◌↔◌, ℕ, ◌+◌, ◌/◌, ◌^◌, ◌<◌, ◌≤◌}
use Rattle.vers_tally.specs.Reads.{Reads, no_reads, AddsAtMost, IsWithin, plus, digits, clog}

-- reading nothing adds nothing
abbrev pub ReadingNothingAddsNothing : Type 0
ReadingNothingAddsNothing = (a : Reads) → AddsAtMost a a no_reads

-- two sequences of reads, one after the other, add at most the sum of their bounds
abbrev pub BoundsAdd : Type 0
BoundsAdd = (a b c p q : Reads) → AddsAtMost a b p → AddsAtMost b c q → AddsAtMost a c (plus p q)

-- a greater bound is a bound too
abbrev pub GreaterBoundsHold : Type 0
GreaterBoundsHold = (a b p q : Reads) → AddsAtMost a b p → IsWithin p q → AddsAtMost a b q

-- half of a number has one digit less
abbrev pub HalvingTakesADigit : Type 0
HalvingTakesADigit = (n : ℕ) → 0 < n → digits n ≡ digits (n / 2) + 1

-- `2 ^ clog n` is the least power of two that is at least n
abbrev pub ClogIsLeast : Type 0
ClogIsLeast = (n k : ℕ) → (n ≤ 2 ^ k) ↔ (clog n ≤ k)
