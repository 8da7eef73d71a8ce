use Rattle.std.proofs.Common.{◌≡◌, ℕ, ◌<◌, length, slice_index}
use Rattle.vers_c.proofs.counts.copy.Given as goal

abbrev pub invariant-loop-k : goal.invariant-loop-k
invariant-loop-k l = record {
  long : length l.numbers ≡ length l.fn.numbers;
  done : (j : ℕ) → j < l.k → slice_index l.numbers j ≡ slice_index l.counts j;
}
