use Rattle.std.proofs.Common.{ℕ, ◌<◌, subst, sym}
use Rattle.vers_trees.specs.Forest.{forest_of}
use Rattle.vers_trees.specs.Nodes.{IsNode}
use Rattle.vers_trees_tests.proofs.tests.nodes.numbered.Goals as goal

pub returns : goal.returns
returns g c =
    let s = subst (λ (n : ℕ). c.args.number < n) c.size.ensures c.if-number-size.false in
    let node = c.ones_are_nodes.ensures c.args.tree.now c.args.number c.requires s in
    subst (λ (v : ℕ). IsNode (forest_of c.args.tree.now) v) (sym c.node_handle.ensures) node
