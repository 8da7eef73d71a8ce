use Rattle.vers_sorted.proofs.Names.{arith}
use Rattle.vers_sorted.proofs.elias_fano.EliasFanoVec.element_at.Goals as goal

pub overflow_sub-one : goal.overflow_sub-one
overflow_sub-one g c = omega (arith, c.requires c.in-Some.number c.in-Some.is (omega (arith, c.if-i-len.false, c.len.ensures.value)))

pub overflow_sub-one-2 : goal.overflow_sub-one-2
overflow_sub-one-2 g c = omega (arith, c.requires c.in-Some.number c.in-Some.is (omega (arith, c.if-i-len.false, c.len.ensures.value)))
