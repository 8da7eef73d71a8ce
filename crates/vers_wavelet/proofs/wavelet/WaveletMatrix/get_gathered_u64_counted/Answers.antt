use Rattle.vers_wavelet.proofs.Names.{arith, length, refl, ◌<◌}
use Rattle.vers_wavelet.proofs.Digits.{room_none}
use Rattle.vers_wavelet.proofs.Gathered.{gathered_here}
use Rattle.vers_wavelet.proofs.wavelet.WaveletMatrix.get_gathered_u64_counted.Goals as goal

pub read_symbol-position-requires-clause-levels : goal.read_symbol-position-requires-clause-levels
read_symbol-position-requires-clause-levels g c = rw c.len-2.ensures.value c.levels.ensures.levels.even

pub read_symbol-position-requires-clause-room : goal.read_symbol-position-requires-clause-room
read_symbol-position-requires-clause-room g c =
    room_none 64 (length c.levels.result.now) (omega (arith, c.fits_word.ensures.0 c.if-not-fits_word.false))

pub returns-clause-symbol : goal.returns-clause-symbol
returns-clause-symbol g c =
    let within : c.args.position < length c.args.self.now.items = omega (arith, c.if-position-len.false) in
    rw c.levels.ensures.items at (gathered_here c.levels.ensures.levels c.args.position c.read_symbol-position.result c.read_symbol-position.new.answer within c.read_symbol-position.ensures.leads c.read_symbol-position.ensures.value).0

pub returns-clause-position : goal.returns-clause-position
returns-clause-position g c =
    let within : c.args.position < length c.args.self.now.items = omega (arith, c.if-position-len.false) in
    rw (c.levels.ensures.wide, c.levels.ensures.items) at (gathered_here c.levels.ensures.levels c.args.position c.read_symbol-position.result c.read_symbol-position.new.answer within c.read_symbol-position.ensures.leads c.read_symbol-position.ensures.value).1

pub returns-clause-adds : goal.returns-clause-adds
returns-clause-adds g c = rw (← c.levels.ensures.wide) c.read_symbol-position.ensures.adds

pub read_symbol-position-requires-clause-wide : goal.read_symbol-position-requires-clause-wide
read_symbol-position-requires-clause-wide g c = omega (arith, c.fits_word.ensures.0 c.if-not-fits_word.false)

pub returns-clause-answered : goal.returns-clause-answered
returns-clause-answered g c = (λ t. (c.fits_word.ensures.0 c.if-not-fits_word.false, omega arith), λ h. refl)
