use Rattle.vers_trees.proofs.layout.Widths.{grown}
use Rattle.vers_trees.proofs.trees.bp.min_max.build.width.Goals as goal

pub returns : goal.returns
returns c = grown _ _ c.requires c.loop-width.invariant c.loop-width-test.false
