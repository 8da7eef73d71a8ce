use Rattle.vers_trees.proofs.Names.{true, Bool, ℕ, List, length, arith, ap, ◌∙◌, positions, Walking}
use Rattle.vers_trees.proofs.walks.WalksOfNodes.{subtree_inside, subtree_part}
use Rattle.vers_trees.proofs.trees.bp.BpTree.subtree_iter.Goals as goal

pub part_of-requires : goal.part_of-requires
part_of-requires g c =
    let p = ap (λ (s : Walking ℕ). length s.left) c.iter1.ensures ∙ ap (λ (l : List Bool). length (positions true l)) c.self.view_is in
    omega (arith, subtree_inside true c.args.self.now c.args.node c.requires.balanced c.requires.is_node, rw c.self.view_is at c.rank1-first.ensures.value)

pub returns : goal.returns
returns g c =
    rw (c.iter1.ensures, c.self.view_is, rw c.self.view_is at c.rank1-first.ensures.value, c.nodes_within-count.ensures, subtree_part c.args.self.now c.args.node c.requires.balanced c.requires.is_node) at c.part_of.ensures
