use Rattle.vers_bits.proofs.Names.{arith, ap, length}
use Rattle.vers_bits.proofs.Equal.{length-limbs}
use Rattle.vers_bits.proofs.bit_vec.BitVec.count_ones.Goals as goal

pub ones_of-requires : goal.ones_of-requires
ones_of-requires g c = omega (arith, length-limbs c.args.self.now, ap length c.limbs.ensures, c.len.ensures.value, c.len.ensures.bounded)
