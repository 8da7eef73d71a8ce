use Rattle.vers_rank.proofs.Names.{◌+◌, ◌*◌, arith, count_near}
use Rattle.vers_rank.proofs.fast_rs_vec.RsVec.number_in.Goals as goal

pub overflow_cast-result : goal.overflow_cast-result
overflow_cast-result g c = omega (arith, count_near c.args.bit c.args.self.now (8192 * c.args.s) (8192 * (c.args.s + 1)) (omega arith), c.count_at_superblock.ensures.value, c.requires.to)

pub returns-clause-small : goal.returns-clause-small
returns-clause-small g c = omega (arith, count_near c.args.bit c.args.self.now (8192 * c.args.s) (8192 * (c.args.s + 1)) (omega arith), c.count_at_superblock.ensures.value, c.requires.to)
