use Rattle.vers_trees.proofs.Names.{false, arith}
use Rattle.vers_trees.proofs.walks.WalksOfNodes.{subtree_inside, subtree_post_part}
use Rattle.vers_trees.proofs.trees.bp.BpTree.subtree_post_iter.Goals as goal

pub closed_by-requires : goal.closed_by-requires
closed_by-requires g c = omega (arith, subtree_inside false c.args.self.now c.args.node c.requires.balanced c.requires.is_node, rw c.self.view_is at c.rank0-first.ensures.value)

pub returns : goal.returns
returns g c =
    rw (rw c.self.view_is at c.rank0-first.ensures.value, c.nodes_within-count.ensures, subtree_post_part c.args.self.now c.args.node c.requires.balanced c.requires.is_node) at c.closed_by.ensures
