use Rattle.vers_trees.proofs.Names.{ap, Some, arith}
use Rattle.vers_trees.proofs.walks.ListsOfNodes.{subtree_size_is, node_pair}
use Rattle.vers_trees.proofs.trees.bp.BpTree.subtree_size_counted.Goals as goal

pub returns-clause-value : goal.returns-clause-value
returns-clause-value g c = ap Some (omega (arith, subtree_size_is _ c.requires.balanced _ (node_pair _ c.requires.balanced _ c.requires.node)))
