use Rattle.vers_sorted.proofs.Names.{◌≡◌, ◌-◌, length, count}
use Rattle.vers_sorted.proofs.sparse.position_from.Given as goal

abbrev pub invariant-loop-position : goal.invariant-loop-position
invariant-loop-position g l = count l.bit l.bits l.position ≡ count l.bit l.bits l.fn.from

abbrev pub decreases-loop-position : goal.decreases-loop-position
decreases-loop-position g l = length l.bits - l.position
