use Rattle.vers_sorted.proofs.Names.{◌*◌, ◌+◌, arith}
use Rattle.vers_bits.proofs.PublicLaws.{count_le}
use Rattle.vers_sorted.proofs.Decoding.{ones_next}
use Rattle.std.specs.Prelude.{true}
use Rattle.vers_sorted.proofs.elias_fano.parts.count_ones_in.Goals as goal

pub overflow_add-ones : goal.overflow_add-ones
overflow_add-ones g c =
    let bits = g.L.Limbs.bits c.args.bits.now in
    let next = ones_next bits c.loop-k.k c.loop-k.ones c.limb.result c.loop-k.invariant c.limb.ensures in
    record { fits = omega (arith, next, (count_le true bits (64 * (c.loop-k.k + 1))).1) }

pub loop-k-preserved : goal.loop-k-preserved
loop-k-preserved g c = ones_next (g.L.Limbs.bits c.args.bits.now) c.loop-k.k c.loop-k.ones c.limb.result c.loop-k.invariant c.limb.ensures
