-- The length of a walk's level, and what walks read.
use Rattle.vers_wavelet.proofs.Names.{rules, ◌≡◌, ℕ, ◌+◌, ◌*◌, ◌%◌, ◌^◌, ◌<◌, ◌≤◌, Bool, List, length, get_or, ap, ◌∙◌, arith, Reads, AddsAtMost, times, adds_nothing, adds_weaker, rank_reads, adds_times, count_below, final_position, AllHaveLength, Narrowed}
use Rattle.vers_wavelet.proofs.Steps.{times_less}

pub level_length : (ls : List (List Bool)) (n k : ℕ) (v : List Bool) → AllHaveLength ls n → v ≡ get_or ls k v → k < length ls → length v ≡ n
level_length ls n k v even at h = ap length at ∙ even k v h

pub adds_fewer : {a b : Reads} (m n : ℕ) → m ≤ n → AddsAtMost a b (times m rank_reads) → AddsAtMost a b (times n rank_reads)
adds_fewer m n h adds = adds_weaker adds (times_less m n rank_reads h)

pub adds_no_times : (a : Reads) (n : ℕ) (r : Reads) → AddsAtMost a a (times n r)
adds_no_times a n r = adds_weaker (adds_nothing a) (search rules)

-- two ranks more, for one level more
pub adds_level : {a b c : Reads} (k : ℕ) → AddsAtMost a b (times (2 * k) rank_reads) → AddsAtMost b c (times 2 rank_reads) → AddsAtMost a c (times (2 * (k + 1)) rank_reads)
adds_level k before more = adds_fewer (2 * k + 2) (2 * (k + 1)) (omega arith) (adds_times (2 * k) 2 rank_reads before more)

-- if no position is left, the ends are as far apart as their final positions
pub narrowed_ended : {ls : List (List Bool)} {s from to k a b less : ℕ} → a ≡ b → Narrowed ls s from to k a b less
    → (less + count_below ls (s % 2 ^ length ls) from ≡ count_below ls (s % 2 ^ length ls) to) × (a + final_position ls s to ≡ b + final_position ls s from)
narrowed_ended {ls} {s} {from} {to} {k} {a} {b} {less} e n = grind (arith, count_below)
