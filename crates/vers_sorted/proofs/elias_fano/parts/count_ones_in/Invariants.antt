use Rattle.vers_sorted.proofs.Names.{◌≡◌, ◌*◌, true, count}
use Rattle.vers_sorted.proofs.elias_fano.parts.count_ones_in.Given as goal

abbrev pub invariant-loop-k : goal.invariant-loop-k
invariant-loop-k g l = l.ones ≡ count true (g.L.Limbs.bits l.bits) (64 * l.k)
