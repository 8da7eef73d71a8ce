use Rattle.vers_trees.proofs.PublicLaws.{close_pair}
use Rattle.vers_trees.proofs.laws.close_finds_pair.Goals as goal

pub returns : goal.returns
returns c = close_pair
