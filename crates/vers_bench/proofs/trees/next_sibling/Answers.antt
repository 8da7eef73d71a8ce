use Rattle.std.proofs.Common.{ℕ, Option, IfSome, subst, sym}
use Rattle.vers_trees.specs.Forest.{forest_of}
use Rattle.vers_trees.specs.Nodes.{IsNode}
use Rattle.vers_bench.proofs.NodesMet.{next_sibling_node}
use Rattle.vers_bench.proofs.trees.next_sibling.Goals as goal

pub returns : goal.returns
returns c =
    let F = forest_of c.args.tree.now in
    subst (λ (o : Option ℕ). IfSome o (IsNode F)) (sym c.next_sibling.ensures) (next_sibling_node F c.args.node)
