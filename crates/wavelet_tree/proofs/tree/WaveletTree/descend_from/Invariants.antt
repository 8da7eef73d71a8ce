use Rattle.wavelet_tree.proofs.Names.{◌+◌, false, cond, ltb, weight, tree_of, depth, sorted_position, access_fork_reads, Walks, LEAVES}
use Rattle.wavelet_tree.proofs.tree.WaveletTree.descend_from.Given as goal

abbrev pub invariant-loop-link : goal.invariant-loop-link
invariant-loop-link g l =
    Walks l.self-inside.starts l.self-inside.nodes l.self-inside.bits (weight (tree_of l.self) l.self.items) false access_fork_reads l.symbol (depth (tree_of l.self) l.symbol)
    (sorted_position l.self.items l.position l.symbol) (sorted_position l.self.items l.position l.symbol) l.fn.tally l.tally l.link l.at l.at

abbrev pub decreases-loop-link : goal.decreases-loop-link
decreases-loop-link g l = cond (ltb l.link LEAVES) (l.link + 1) 0
