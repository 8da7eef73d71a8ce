use Rattle.vers_trees.proofs.Names.{false, Bool, List, arith, sym, subst, IsWalkOfSiblings}
use Rattle.vers_trees.proofs.walks.WalksOfNodes.{backwards}
use Rattle.vers_trees.proofs.trees.bp.BpTree.rev_children.Goals as goal

pub new-requires : goal.new-requires
new-requires g c =
    let w = backwards c.args.self.now c.args.node c.end-end.result c.requires.balanced c.requires.is_node c.end-end.ensures.value in
    (omega arith, (omega arith, (c.searched.ensures.indexed, subst (λ (l : List Bool). IsWalkOfSiblings l false c.end-end.result) (sym c.searched.ensures.bits) w.1)))

pub returns : goal.returns
returns g c = rw (c.searched.ensures.bits, (backwards c.args.self.now c.args.node c.end-end.result c.requires.balanced c.requires.is_node c.end-end.ensures.value).0) at c.new.ensures
