use Rattle.wavelet_tree.proofs.Names.{◌+◌, true, cond, ltb, get_or, weight, tree_of, depth, sorted_position, access_fork_reads, Walks, LEAVES}
use Rattle.wavelet_tree.proofs.tree.WaveletTree.get_sorted_counted.Given as goal

abbrev pub invariant-loop-link : goal.invariant-loop-link
invariant-loop-link g l =
    Walks l.self-inside.starts l.self-inside.nodes l.self-inside.bits (weight (tree_of l.self) l.self.items) true access_fork_reads (get_or l.self.items l.position 0) (depth (tree_of l.self) (get_or l.self.items l.position 0))
    (sorted_position l.self.items l.position (get_or l.self.items l.position 0)) (sorted_position l.self.items l.position (get_or l.self.items l.position 0)) l.fn.tally l.tally l.link l.at l.at

abbrev pub decreases-loop-link : goal.decreases-loop-link
decreases-loop-link g l = cond (ltb l.link LEAVES) (l.link + 1) 0
