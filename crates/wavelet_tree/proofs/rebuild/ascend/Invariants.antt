use Rattle.wavelet_tree.proofs.Names.{◌≤◌, ℕ, ◌+◌, ◌<◌, length, get_or}
use Rattle.wavelet_tree.proofs.rebuild.ascend.Given as goal

abbrev pub invariant-loop-k : goal.invariant-loop-k
invariant-loop-k l = (j : ℕ) → j + 1 < l.k → j + 1 < length l.starts → get_or l.starts j 0 ≤ get_or l.starts (j + 1) 0
