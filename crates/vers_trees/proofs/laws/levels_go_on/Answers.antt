use Rattle.vers_trees.proofs.PublicLaws.{levels_go_on}
use Rattle.vers_trees.proofs.laws.levels_go_on.Goals as goal

pub returns : goal.returns
returns c = levels_go_on
