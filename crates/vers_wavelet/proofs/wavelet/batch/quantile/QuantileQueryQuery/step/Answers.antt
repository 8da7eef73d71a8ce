use Rattle.vers_wavelet.proofs.Names.{arith}
use Rattle.vers_wavelet.proofs.Digits.{room_more}
use Rattle.vers_wavelet.proofs.Quantiles.{quantile_goes}
use Rattle.vers_wavelet.proofs.wavelet.batch.quantile.QuantileQueryQuery.step.Goals as goal

pub returns-clause-keeps : goal.returns-clause-keeps
returns-clause-keeps g c =
    let kept = rw (c.in-Some.is) at c.requires in
    let put = c.put_digit.ensures.value in
    let choice = c.choose_level-choice in
    (choice.ensures.order, choice.ensures.within, omega (arith, kept.2), rw put (room_more choice.result.bit 64 c.args.i c.in-Some.number kept.3))

pub returns-clause-same : goal.returns-clause-same
returns-clause-same g c =
    let kept = rw (c.in-Some.is) at c.requires in
    let choice = c.choose_level-choice in
    let q = c.args.self in
    λ ls long. quantile_goes c.args.level.now ls q.start q.end q.i choice.result.left choice.result.start choice.result.end c.in-Some.number c.put_digit.new.self c.args.i choice.result.bit q.answer
    c.in-Some.is long kept.0 kept.1 choice.ensures.start choice.ensures.end choice.ensures.order choice.ensures.left c.put_digit.ensures.value
