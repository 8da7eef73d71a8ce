use Rattle.vers_rank.proofs.Names.{arith}
use Rattle.vers_rank.proofs.Builds.{add_block, near_block}
use Rattle.vers_rank.proofs.build.add_entry.Goals as goal

pub returns-clause-entries : goal.returns-clause-entries
returns-clause-entries g c = grind (arith, add_block, near_block)

pub overflow_sub-zeros : goal.overflow_sub-zeros
overflow_sub-zeros g c = omega (arith, c.requires.base (omega arith), (near_block c.args.bits.now c.args.block).0)

pub overflow_cast-zeros : goal.overflow_cast-zeros
overflow_cast-zeros g c = omega (arith, c.requires.base (omega arith), (near_block c.args.bits.now c.args.block).1)
