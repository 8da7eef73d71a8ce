use Rattle.vers_bits.proofs.Names.{arith, same_bits-Decides}
use Rattle.vers_bits.proofs.Equal.{length-limbs, same_limbs}
use Rattle.vers_bits.proofs.bit_vec.BitVecPartialEq.eq.Goals as goal

pub are_same-requires : goal.are_same-requires
are_same-requires g c = grind (arith, length-limbs)

pub returns-then-len-clause-exact : goal.returns-then-len-clause-exact
returns-then-len-clause-exact g c = grind (arith, same_limbs, same_bits-Decides)
