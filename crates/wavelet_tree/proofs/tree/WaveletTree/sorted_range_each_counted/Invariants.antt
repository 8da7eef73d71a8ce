use Rattle.wavelet_tree.proofs.Names.{◌≡◌, ℕ, ◌+◌, ◌<◌, ◌≤◌, false, length, get_or, RangeQuery, LEAVES, AreAll, AreUpTo, HasRanks, HasTurned, IsAsked}
use Rattle.wavelet_tree.proofs.tree.WaveletTree.sorted_range_each_counted.Given as goal

-- the first queries are begun
abbrev pub invariant-loop-k : goal.invariant-loop-k
invariant-loop-k g l =
    AreUpTo (HasTurned l.self l.self-inside.starts l.self-inside.nodes l.self-inside.bits 0) (IsAsked l.self.items) l.fn.queries l.queries l.k l.fn.tally l.tally

-- all have taken as many turns
abbrev pub invariant-loop : goal.invariant-loop
invariant-loop g l =
    AreAll (HasTurned l.self l.self-inside.starts l.self-inside.nodes l.self-inside.bits l.counter) l.fn.queries l.queries l.fn.tally l.tally

-- the first queries have their ranks
abbrev pub invariant-loop-k-2 : goal.invariant-loop-k-2
invariant-loop-k-2 g l =
    AreUpTo (HasRanks l.self l.self-inside.starts l.self-inside.nodes l.self-inside.bits l.counter) (HasTurned l.self l.self-inside.starts l.self-inside.nodes l.self-inside.bits l.counter)
    l.fn.queries l.queries l.k l.fn.tally l.tally

-- the first queries have taken one more turn, and if none of them came to a fork, they are answered
abbrev pub invariant-loop-k-3 : goal.invariant-loop-k-3
invariant-loop-k-3 g l = record {
  are : AreUpTo (HasTurned l.self l.self-inside.starts l.self-inside.nodes l.self-inside.bits (l.counter + 1)) (HasRanks l.self l.self-inside.starts l.self-inside.nodes l.self-inside.bits l.counter)
      l.fn.queries l.queries l.k l.fn.tally l.tally;
  none : l.is_any ≡ false → (i : ℕ) (q : RangeQuery) → i < l.k → i < length l.queries → LEAVES ≤ (get_or l.queries i q).link;
}
