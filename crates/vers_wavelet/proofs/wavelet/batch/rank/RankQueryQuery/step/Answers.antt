use Rattle.vers_wavelet.proofs.Answering.{rank_goes}
use Rattle.vers_wavelet.proofs.wavelet.batch.rank.RankQueryQuery.step.Goals as goal

pub returns-clause-same : goal.returns-clause-same
returns-clause-same g c =
    λ ls long. rank_goes c.args.level.now ls c.args.self.symbol c.args.self.end c.in-Some.count c.args.i c.next_position-start.result c.next_position-end.result c.digit-bit.result
    c.args.self.answer c.in-Some.is long c.digit-bit.ensures c.next_position-start.ensures.value c.next_position-end.ensures.value
