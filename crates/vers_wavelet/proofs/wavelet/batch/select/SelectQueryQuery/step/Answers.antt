use Rattle.vers_wavelet.proofs.Answering.{select_goes}
use Rattle.vers_wavelet.proofs.wavelet.batch.select.SelectQueryQuery.step.Goals as goal

pub returns-clause-same : goal.returns-clause-same
returns-clause-same g c =
    λ ls long. select_goes c.args.level.now ls c.args.self.symbol c.in-Some.position c.args.i c.next_position.result c.digit-bit.result c.args.self.answer c.in-Some.is long c.digit-bit.ensures c.next_position.ensures.value
