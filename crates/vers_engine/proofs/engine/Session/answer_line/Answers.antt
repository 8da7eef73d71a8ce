use Rattle.vers_engine.proofs.Names.{sym, arith, eqb-true, nil_from_length}
use Rattle.vers_engine.proofs.Steps.{AnswersOrStays-from}
use Rattle.vers_engine.proofs.engine.Session.answer_line.Goals as goal

pub returns-then-is_empty-clause-answered : goal.returns-then-is_empty-clause-answered
returns-then-is_empty-clause-answered g c =
    let s = c.args.self.now in
    rw (nil_from_length s.pending.items (omega (arith, s.pending.ok.0, eqb-true _ 0 (sym c.if-is_empty.ensures))))
    (AnswersOrStays-from g.S.Answerer.answering c.answer.result s.store c.args.end.now s.answers.items c.answer.new.answers.items c.answer.new.self
    c.answer.ensures.answer c.answer.ensures.holds c.answer.ensures.kept)
