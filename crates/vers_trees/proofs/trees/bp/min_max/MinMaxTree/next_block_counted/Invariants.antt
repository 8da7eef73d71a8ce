use Rattle.vers_trees.proofs.Names.{false, ◌-◌, ◌*◌, ◌≤◌, ◌+◌, AddsAtMost, only_nodes, digits, Sought, BeginsAt, ComesTo}
use Rattle.vers_trees.proofs.trees.bp.min_max.MinMaxTree.next_block_counted.Given as goal

abbrev pub invariant-loop-node : goal.invariant-loop-node
invariant-loop-node g l = record {
  comes : (s : Sought) → BeginsAt false s l.self.first l.self.nodes l.begin l.fn.left → ComesTo false s l.self.first l.self.nodes l.node l.left;
  within : l.node ≤ 2 * l.self.first;
  reads : AddsAtMost l.fn.tally l.tally (only_nodes (digits (2 * l.self.first + 1) - digits (l.node + 1)));
}

abbrev pub decreases-loop-node : goal.decreases-loop-node
decreases-loop-node g l = l.node
