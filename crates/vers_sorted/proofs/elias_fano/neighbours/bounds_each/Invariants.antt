use Rattle.vers_sorted.proofs.Names.{◌≡◌, ℕ, ◌+◌, ◌<◌, Some, None, ◌^◌, slice_index, slice_index_or}
use Rattle.vers_sorted.proofs.elias_fano.neighbours.bounds_each.Given as goal

abbrev pub invariant-loop-j : goal.invariant-loop-j
invariant-loop-j g l = (k : ℕ) → k < l.j → (v : ℕ) → slice_index_or l.values (l.from + k) None ≡ Some v → g.S.Side.bound v < 2 ^ 64 → slice_index l.asked k ≡ g.S.Side.bound v
