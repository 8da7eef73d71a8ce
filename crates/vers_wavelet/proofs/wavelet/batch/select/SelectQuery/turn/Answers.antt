use Rattle.vers_wavelet.proofs.Names.{arith}
use Rattle.vers_wavelet.proofs.Answering.{turn_known, turn_past}
use Rattle.vers_wavelet.proofs.wavelet.batch.select.SelectQuery.turn.Goals as goal

pub returns-clause-seeks : goal.returns-clause-seeks
returns-clause-seeks c = λ ls levels begun. turn_known levels c.args.self.symbol c.args.self.rank c.in-Some.first c.args.self.answer c.in-Some.is begun (omega arith)

pub returns-then-self-saturating_sub-clause-seeks :
    goal.returns-then-self-saturating_sub-clause-seeks
returns-then-self-saturating_sub-clause-seeks c =
    λ ls levels begun. turn_past levels c.args.self.symbol c.args.self.rank c.in-Some.first c.args.self.answer c.in-Some.is begun (omega arith)
