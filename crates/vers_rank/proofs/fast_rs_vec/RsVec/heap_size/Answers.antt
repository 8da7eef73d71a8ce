use Rattle.vers_rank.proofs.Names.{arith}
use Rattle.vers_rank.proofs.Ranks.{size_is, size_fits}
use Rattle.vers_rank.proofs.fast_rs_vec.RsVec.heap_size.Goals as goal

pub overflow_mul-result-4 : goal.overflow_mul-result-4
overflow_mul-result-4 g c = omega (arith, size_fits c.self.invariant)

pub overflow_add-result-3 : goal.overflow_add-result-3
overflow_add-result-3 g c = omega (arith, size_fits c.self.invariant)

pub overflow_mul-result-5 : goal.overflow_mul-result-5
overflow_mul-result-5 g c = omega (arith, size_fits c.self.invariant)

pub overflow_add-result-4 : goal.overflow_add-result-4
overflow_add-result-4 g c = omega (arith, size_fits c.self.invariant)

pub returns : goal.returns
returns g c = rw (← c.self.view_is) (omega (arith, size_is c.self.invariant))
