use Rattle.vers_sorted.proofs.Names.{◌≡◌, ℕ, ◌<◌, slice_index, high_of}
use Rattle.vers_sorted.proofs.elias_fano.EliasFanoVec.high_numbers.Given as goal

abbrev pub invariant-loop-j : goal.invariant-loop-j
invariant-loop-j g l = (k : ℕ) → k < l.j → slice_index l.highs k ≡ high_of l.self (slice_index l.asked k)
