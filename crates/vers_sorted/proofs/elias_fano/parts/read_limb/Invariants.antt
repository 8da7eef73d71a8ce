use Rattle.std.proofs.Common.{nat_eq}
use Rattle.vers_sorted.proofs.Names.{not, ◌≡◌, ℕ, ◌+◌, ◌*◌, ◌/◌, ◌^◌, ◌≤◌, true, count, limb}
use Rattle.vers_sorted.specs.inside.Decoding.{HasRead}
use Rattle.vers_sorted.proofs.elias_fano.parts.read_limb.Given as goal

abbrev pub invariant-loop-word : goal.invariant-loop-word
invariant-loop-word g l = (d : ℕ) × (d ≤ 64) × (l.word ≡ limb (g.H.Limbs.bits l.high) l.k / 2 ^ d * 2 ^ d)
    × HasRead (not (nat_eq g.row.RISING 0)) (g.H.Limbs.bits l.high) (g.L.Limbs.bits l.low) l.width (count true (g.H.Limbs.bits l.high) (64 * l.k + d)) l.walk

abbrev pub decreases-loop-word : goal.decreases-loop-word
decreases-loop-word g l = l.word
