use Rattle.vers_trees.proofs.PublicLaws.{enclosed_by_parent}
use Rattle.vers_trees.proofs.laws.enclose_finds_parent.Goals as goal

pub returns : goal.returns
returns c = enclosed_by_parent
