use Rattle.std.proofs.Common.{All}
use Rattle.vers_trees.specs.Forest.{forest_of}
use Rattle.vers_trees.specs.Nodes.{IsNode}
use Rattle.vers_bench.proofs.trees.nodes_asked.Given as goal

abbrev pub invariant-loop : goal.invariant-loop
invariant-loop l = All (λ v. IsNode (forest_of l.tree) v) l.nodes.items
