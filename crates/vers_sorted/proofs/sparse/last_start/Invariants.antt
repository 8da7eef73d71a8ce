use Rattle.vers_sorted.proofs.Names.{◌+◌, ◌*◌, ◌<◌, length}
use Rattle.vers_sorted.proofs.sparse.last_start.Given as goal

abbrev pub invariant-loop-k : goal.invariant-loop-k
invariant-loop-k g l = 64 * l.k < length l.bits + 64

abbrev pub decreases-loop-k : goal.decreases-loop-k
decreases-loop-k g l = l.k
