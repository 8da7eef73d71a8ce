use Rattle.vers_trees.proofs.Names.{true, ◌≡◌, ◌-◌, ◌*◌, ◌<◌, ◌≤◌, ◌+◌, get_or, empty_node, FitsSigned, w64, AddsAtMost, only_nodes, digits, Sought, LeadsTo}
use Rattle.vers_trees.proofs.trees.bp.min_max.MinMaxTree.descend_back_counted.Given as goal

abbrev pub invariant-loop-node : goal.invariant-loop-node
invariant-loop-node g l = record {
  every : (s : Sought) → LeadsTo true s l.self.first l.self.nodes l.fn.position l.fn.left → LeadsTo true s l.self.first l.self.nodes l.node l.left;
  within : l.node ≤ 2 * l.self.first;
  below : l.node < l.self.first → l.below ≡ get_or l.self.nodes (2 * l.node + 2) empty_node;
  fits : FitsSigned w64 l.below.total;
  reads : AddsAtMost l.fn.tally l.tally (only_nodes (2 * digits (l.node + 1) - 1));
}

abbrev pub decreases-loop-node : goal.decreases-loop-node
decreases-loop-node g l = l.self.first - l.node
