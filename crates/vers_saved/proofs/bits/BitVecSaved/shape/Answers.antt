use Rattle.vers_saved.proofs.Names.{arith}
use Rattle.vers_saved.proofs.BitLists.{whole_limbs}
use Rattle.vers_saved.proofs.bits.BitVecSaved.shape.Goals as goal

pub returns-clause-whole : goal.returns-clause-whole
returns-clause-whole g c = whole_limbs c.args.self.now (omega (arith, c.len.ensures.value, c.len.ensures.bounded))
