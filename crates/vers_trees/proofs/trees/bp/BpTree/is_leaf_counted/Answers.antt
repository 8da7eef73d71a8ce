use Rattle.vers_trees.proofs.Names.{forest_of, children}
use Rattle.vers_trees.proofs.kin.Kin.{leaf_by}
use Rattle.vers_trees.proofs.trees.bp.BpTree.is_leaf_counted.Goals as goal

pub returns-clause-value : goal.returns-clause-value
returns-clause-value g c = leaf_by (children (forest_of c.args.self.now) c.args.node) c.first_child_counted.result c.is_none.result c.is_none.ensures c.first_child_counted.ensures.value
