use Rattle.vers_trees.proofs.Names.{arith, ints}
use Rattle.vers_trees.proofs.layout.Widths.{no_nodes_counted}
use Rattle.vers_trees.proofs.trees.bp.min_max.MinMaxTree.over.Goals as goal

pub returns-then-len-eq0 : goal.returns-then-len-eq0
returns-then-len-eq0 g c = grind (arith, ints, no_nodes_counted)
