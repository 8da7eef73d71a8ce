use Rattle.vers_trees.proofs.PublicLaws.{level_iff_depth}
use Rattle.vers_trees.proofs.laws.level_iff_depth.Goals as goal

pub returns : goal.returns
returns c = level_iff_depth
