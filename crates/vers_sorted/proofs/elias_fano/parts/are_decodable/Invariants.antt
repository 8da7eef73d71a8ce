use Rattle.std.proofs.Common.{nat_eq}
use Rattle.vers_sorted.proofs.Names.{not, ◌*◌, true, count}
use Rattle.vers_sorted.specs.inside.Decoding.{HasRead}
use Rattle.vers_sorted.proofs.elias_fano.parts.are_decodable.Given as goal

abbrev pub invariant-loop-k : goal.invariant-loop-k
invariant-loop-k g l = HasRead (not (nat_eq g.row.RISING 0)) (g.H.Limbs.bits l.high) (g.L.Limbs.bits l.low) l.width (count true (g.H.Limbs.bits l.high) (64 * l.k)) l.walk
