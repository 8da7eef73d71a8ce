use Rattle.std.proofs.Common.{arith}
use Rattle.std.proofs.lemmas.List.Elements.{All-push, All-same}
use Rattle.vers_trees.specs.Forest.{forest_of}
use Rattle.vers_trees.specs.Nodes.{IsNode}
use Rattle.vers_bench.proofs.trees.climbs_asked.Goals as goal

pub loop-node-preserved : goal.loop-node-preserved
loop-node-preserved c =
    All-same (λ it. IsNode (forest_of c.args.tree.now) it.node) _ _ c.in_ok-push.ensures.items
    (All-push (λ it. IsNode (forest_of c.args.tree.now) it.node) c.loop-node.climbs.items _
    c.loop-node.invariant (c.requires c.loop-node.node-index 0 (omega (arith, c.loop-node-test.true))))
