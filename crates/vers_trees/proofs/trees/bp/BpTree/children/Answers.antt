use Rattle.vers_trees.proofs.Names.{◌≡◌, ◌+◌, true, Bool, List, length, arith, sym, ap, subst, IsWalkOfSiblings}
use Rattle.vers_trees.proofs.walks.WalksOfNodes.{forwards, closes_inside}
use Rattle.vers_trees.proofs.trees.bp.BpTree.children.Goals as goal

pub overflow_add-node : goal.overflow_add-node
overflow_add-node g c =
    let i = closes_inside c.args.self.now c.requires.balanced c.args.node c.requires.is_node in
    let e : length c.searched.result.bits.now ≡ length c.args.self.now = ap (λ (l : List Bool). length l) c.searched.ensures.bits in
    record { fits = omega arith }

pub new-requires : goal.new-requires
new-requires g c =
    let w = forwards c.args.self.now c.args.node c.requires.balanced c.requires.is_node in
    (omega arith, (omega arith, (c.searched.ensures.indexed, subst (λ (l : List Bool). IsWalkOfSiblings l true (c.args.node + 1)) (sym c.searched.ensures.bits) w.1)))

pub returns : goal.returns
returns g c = rw (c.searched.ensures.bits, (forwards c.args.self.now c.args.node c.requires.balanced c.requires.is_node).0) at c.new.ensures
