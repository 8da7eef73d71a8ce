use Rattle.vers_trees.proofs.Names.{false, arith, sym, ◌∙◌, length-positions}
use Rattle.vers_trees.proofs.walks.WalksOfNodes.{closed_by_all}
use Rattle.vers_trees.proofs.trees.bp.BpTree.dfs_post_iter.Goals as goal

pub closed_by-requires : goal.closed_by-requires
closed_by-requires g c = omega (arith, rw c.self.view_is at c.zeros.ensures.value, length-positions false c.args.self.now)

pub returns : goal.returns
returns g c =
    let all = (rw c.self.view_is at c.zeros.ensures.value) ∙ sym (length-positions false c.args.self.now) in
    rw (closed_by_all c.args.self.now c.zeros.result c.requires.balanced all) at c.closed_by.ensures
