use Rattle.vers_trees.proofs.Names.{◌-◌, ◌≤◌}
use Rattle.vers_trees.proofs.searches.PartNodes.{IsSoFar}
use Rattle.vers_trees.proofs.trees.bp.scan.node_of.Given as goal

abbrev pub invariant-loop-start : goal.invariant-loop-start
invariant-loop-start g l = record { low : l.from ≤ l.start; high : l.start ≤ l.end; part : IsSoFar l.bits l.from l.start l.node }

abbrev pub decreases-loop-start : goal.decreases-loop-start
decreases-loop-start g l = l.end - l.start

abbrev pub invariant-loop-start-2 : goal.invariant-loop-start-2
invariant-loop-start-2 g l = record { low : l.from ≤ l.start; high : l.start ≤ l.end; part : IsSoFar l.bits l.from l.start l.node }

abbrev pub decreases-loop-start-2 : goal.decreases-loop-start-2
decreases-loop-start-2 g l = l.end - l.start

abbrev pub invariant-loop-position : goal.invariant-loop-position
invariant-loop-position g l = IsSoFar l.bits l.from l.position l.node
