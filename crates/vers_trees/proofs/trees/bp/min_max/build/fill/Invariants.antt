use Rattle.vers_trees.proofs.Names.{ℕ, Bool, List, ◌≤◌, AreLeaves, CoveredFrom}
use Rattle.vers_trees.proofs.trees.bp.min_max.build.fill.Given as goal

abbrev pub invariant-loop-i : goal.invariant-loop-i
invariant-loop-i l = (l.i ≤ l.first) × ((bits : List Bool) (size : ℕ) → AreLeaves bits size l.first l.fn.nodes → CoveredFrom bits size l.first l.nodes l.i)

abbrev pub decreases-loop-i : goal.decreases-loop-i
decreases-loop-i l = l.i
