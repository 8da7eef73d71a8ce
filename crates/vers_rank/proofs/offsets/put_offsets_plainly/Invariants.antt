use Rattle.vers_rank.proofs.OffsetLanes.{IsListed}
use Rattle.vers_rank.proofs.offsets.put_offsets_plainly.Given as goal

abbrev pub invariant-loop-i : goal.invariant-loop-i
invariant-loop-i l = IsListed l.word l.n l.i l.held l.offsets

abbrev pub decreases-loop-i : goal.decreases-loop-i
decreases-loop-i l = l.i
