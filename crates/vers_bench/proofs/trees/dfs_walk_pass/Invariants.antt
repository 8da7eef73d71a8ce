use Rattle.vers_trees.specs.Forest.{forest_of}
use Rattle.vers_trees.specs.Nodes.{IsNode}
use Rattle.vers_bench.proofs.trees.dfs_walk_pass.Given as goal

abbrev pub invariant-loop : goal.invariant-loop
invariant-loop l = IsNode (forest_of l.tree) l.node
