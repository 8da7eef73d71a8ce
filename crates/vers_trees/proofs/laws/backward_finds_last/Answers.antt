use Rattle.vers_trees.proofs.searches.Searches.{before_some, before_is}
use Rattle.vers_trees.proofs.laws.backward_finds_last.Goals as goal

pub returns : goal.returns
returns c l i r j = (before_some l i r j, before_is l i r j)
