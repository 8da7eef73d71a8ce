use Rattle.vers_wavelet.proofs.Names.{arith, sym}
use Rattle.vers_wavelet.proofs.Digits.{room_more}
use Rattle.vers_wavelet.proofs.Answering.{get_goes}
use Rattle.vers_wavelet.proofs.wavelet.batch.get.GetQueryQuery.step.Goals as goal

pub returns-clause-keeps : goal.returns-clause-keeps
returns-clause-keeps g c =
    let kept = rw (c.in-Some.is) at c.requires in
    let put = c.put_digit.ensures.value in
    (c.read_level-step.ensures.within, omega (arith, kept.1), rw put (room_more c.read_level-step.result.bit 64 c.args.i c.in-Some.number kept.2))

pub returns-clause-same : goal.returns-clause-same
returns-clause-same g c =
    let step = c.read_level-step in
    λ ls long. rw (step.ensures.position)
    (get_goes c.args.level.now ls c.args.self.position c.args.i c.in-Some.number c.put_digit.new.self step.result.bit c.args.self.answer c.in-Some.is long (sym step.ensures.bit) c.put_digit.ensures.value)
