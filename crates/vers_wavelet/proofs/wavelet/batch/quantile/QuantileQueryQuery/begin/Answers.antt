use Rattle.vers_wavelet.proofs.Names.{arith}
use Rattle.vers_wavelet.proofs.Quantiles.{quantile_begins, quantile_none}
use Rattle.vers_wavelet.proofs.wavelet.batch.quantile.QuantileQueryQuery.begin.Goals as goal

pub returns-then-has_answer-clause-same : goal.returns-then-has_answer-clause-same
returns-then-has_answer-clause-same c =
    let all = c.has_answer.ensures.0 c.if-has_answer.true in
    λ ls levels e. quantile_begins ls c.args.len c.args.self.start c.args.self.end c.args.self.i (omega (arith, e, all.0)) all.1 all.2

pub returns-else-has_answer-clause-same : goal.returns-else-has_answer-clause-same
returns-else-has_answer-clause-same c = grind (arith, quantile_none)
