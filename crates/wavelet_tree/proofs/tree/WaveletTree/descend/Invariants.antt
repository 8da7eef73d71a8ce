use Rattle.wavelet_tree.proofs.Names.{◌+◌, false, cond, ltb, weight, tree_of, depth, sorted_position, fork_reads, Walks, LEAVES}
use Rattle.wavelet_tree.proofs.tree.WaveletTree.descend.Given as goal

abbrev pub invariant-loop-link : goal.invariant-loop-link
invariant-loop-link g l =
    Walks l.self-inside.starts l.self-inside.nodes l.self-inside.bits (weight (tree_of l.self) l.self.items) false fork_reads l.symbol (depth (tree_of l.self) l.symbol)
    (sorted_position l.self.items l.start l.symbol) (sorted_position l.self.items l.end l.symbol) l.fn.tally l.tally l.link l.from l.to

abbrev pub decreases-loop-link : goal.decreases-loop-link
decreases-loop-link g l = cond (ltb l.link LEAVES) (l.link + 1) 0
