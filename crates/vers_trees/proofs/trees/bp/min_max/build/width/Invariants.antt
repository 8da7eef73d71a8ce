use Rattle.vers_trees.proofs.Names.{◌-◌, IsGrowing}
use Rattle.vers_trees.proofs.trees.bp.min_max.build.width.Given as goal

abbrev pub invariant-loop-width : goal.invariant-loop-width
invariant-loop-width l = IsGrowing l.leaves l.width

abbrev pub decreases-loop-width : goal.decreases-loop-width
decreases-loop-width l = l.leaves - l.width
