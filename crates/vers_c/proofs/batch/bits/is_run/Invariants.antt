use Rattle.vers_c.proofs.Names.{◌+◌, ◌<◌}
use Rattle.std.proofs.Common.{◌≡◌, ℕ, slice_index}
use Rattle.vers_c.proofs.batch.bits.is_run.Given as goal

abbrev pub invariant-loop-k : goal.invariant-loop-k
invariant-loop-k l = (j : ℕ) → j < l.k → slice_index l.numbers j ≡ slice_index l.numbers 0 + j
