use Rattle.vers_wavelet.proofs.Names.{true, false}
use Rattle.vers_wavelet.proofs.Values.{of_kind}
use Rattle.vers_wavelet.proofs.wavelet.level.is_of_bit.Goals as goal

pub returns-then-bit : goal.returns-then-bit
returns-then-bit g c = rw c.if-bit.true (of_kind true c.args.level.now c.zeros.result c.args.position c.zeros.ensures.value c.requires)

pub returns-else-bit : goal.returns-else-bit
returns-else-bit g c = rw c.if-bit.false (of_kind false c.args.level.now c.zeros-else-bit.result c.args.position c.zeros-else-bit.ensures.value c.requires)
