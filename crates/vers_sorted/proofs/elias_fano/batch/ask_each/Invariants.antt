use Rattle.vers_sorted.proofs.Names.{◌≡◌, ℕ, ◌+◌, ◌<◌, None, slice_index, slice_index_or, unwrap_or}
use Rattle.vers_sorted.proofs.elias_fano.batch.ask_each.Given as goal

abbrev pub invariant-loop-j : goal.invariant-loop-j
invariant-loop-j l = (k : ℕ) → k < l.j → slice_index l.ones k ≡ unwrap_or (slice_index_or l.positions (l.from + k) None) 18446744073709551615
