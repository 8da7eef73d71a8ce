use Rattle.std.proofs.Common.{All}
use Rattle.vers_trees.specs.Forest.{forest_of}
use Rattle.vers_trees.specs.Nodes.{IsNode}
use Rattle.vers_bench.proofs.trees.climbs_asked.Given as goal

abbrev pub invariant-loop-node : goal.invariant-loop-node
invariant-loop-node l = All (λ c. IsNode (forest_of l.tree) c.node) l.climbs.items
