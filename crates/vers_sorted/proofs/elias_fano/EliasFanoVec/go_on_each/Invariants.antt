use Rattle.vers_sorted.proofs.Names.{ℕ, ◌<◌, slice_index, AddsAtMost, times, high_length, reads, IsInside, IsBegun}
use Rattle.vers_sorted.proofs.elias_fano.EliasFanoVec.go_on_each.Given as goal

abbrev pub invariant-loop-j : goal.invariant-loop-j
invariant-loop-j g l = record {
  begun : (k : ℕ) → k < l.j → IsInside l.self (slice_index l.asked k) → IsBegun l.self (slice_index l.asked k) (slice_index l.before k) (slice_index l.after k) (slice_index l.parts k);
  adds : AddsAtMost l.fn.tally l.tally (times l.j (reads 1 2 (high_length l.self)));
}
