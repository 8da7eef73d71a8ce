use Rattle.vers_trees.proofs.Names.{arith}
use Rattle.vers_trees.proofs.walks.ListsOfNodes.{subtree_size_is, node_pair}
use Rattle.vers_trees.proofs.trees.bp.BpTree.nodes_within.Goals as goal

pub returns : goal.returns
returns g c =
    let s = subtree_size_is c.args.self.now c.requires.balanced c.args.node (node_pair c.args.self.now c.requires.balanced c.args.node c.requires.is_node) in omega arith
