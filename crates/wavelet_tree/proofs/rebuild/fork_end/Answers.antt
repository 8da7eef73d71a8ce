use Rattle.wavelet_tree.proofs.Names.{◌+◌, true, arith, count_up}
use Rattle.wavelet_tree.proofs.rebuild.fork_end.Goals as goal

pub overflow_sub-ones : goal.overflow_sub-ones
overflow_sub-ones g c = omega (arith, count_up true c.args.bits.now c.args.start (c.args.start + c.args.elements) (omega arith))

pub returns-clause-ones : goal.returns-clause-ones
returns-clause-ones g c = omega (arith, count_up true c.args.bits.now c.args.start (c.args.start + c.args.elements) (omega arith))
