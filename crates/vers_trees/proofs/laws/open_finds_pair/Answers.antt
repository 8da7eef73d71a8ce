use Rattle.vers_trees.proofs.PublicLaws.{open_pair}
use Rattle.vers_trees.proofs.laws.open_finds_pair.Goals as goal

pub returns : goal.returns
returns c = open_pair
