use Rattle.vers_wavelet.proofs.Names.{arith, true}
use Rattle.vers_wavelet.proofs.Values.{next_other, next-le, next_up_to_position}
use Rattle.vers_wavelet.proofs.wavelet.level.chosen_position.Goals as goal

pub overflow_sub-ones : goal.overflow_sub-ones
overflow_sub-ones g c = omega (arith, c.requires.zeros, next_up_to_position c.args.level.now c.args.position)

pub overflow_add-ones : goal.overflow_add-ones
overflow_add-ones g c = omega (arith, next_other c.args.level.now c.args.position c.requires.within, next-le true c.args.level.now c.args.position)

pub returns-then-bit : goal.returns-then-bit
returns-then-bit g c =
    rw c.if-bit.true (omega (arith, next_other c.args.level.now c.args.position c.requires.within, c.requires.zeros, c.zeros.ensures.value, next_up_to_position c.args.level.now c.args.position))
