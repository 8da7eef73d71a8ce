use Rattle.vers_wavelet.proofs.Names.{false, arith}
use Rattle.vers_wavelet.proofs.Values.{next_near}
use Rattle.vers_wavelet.proofs.wavelet.level.part_of_bit.Goals as goal

pub overflow_add-result : goal.overflow_add-result
overflow_add-result g c =
    omega (arith, c.requires.few, c.requires.first, c.requires.last, next_near false c.args.level.now c.args.part.start c.args.part.end c.requires.order)

pub returns-else-bit-clause-few : goal.returns-else-bit-clause-few
returns-else-bit-clause-few g c =
    omega (arith, c.chosen_position.ensures, c.chosen_position-2.ensures, next_near c.args.bit c.args.level.now c.args.part.start c.args.part.end c.requires.order)
