use Rattle.vers_trees.proofs.searches.Searches.{after_some, after_is}
use Rattle.vers_trees.proofs.laws.forward_finds_first.Goals as goal

pub returns : goal.returns
returns c l i r j = (after_some l i r j, after_is l i r j)
