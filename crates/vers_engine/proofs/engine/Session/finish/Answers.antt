use Rattle.vers_engine.proofs.Names.{◌≡◌, ◌==◌, ◌++◌, [], false, length, sym, ◌∙◌, arith, eqb-true, eqb-false, ne_eqb, append-nil, nil_from_length, err_from_is_err_and}
use Rattle.std.proofs.KnownBytes.{Appends-nil}
use Rattle.vers_engine.proofs.Steps.{FinishesOrFails-none, FinishesOrFails-stays, FinishesOrFails-line}
use Rattle.vers_engine.proofs.engine.Session.finish.Goals as goal

pub returns-then-is_empty-clause-written : goal.returns-then-is_empty-clause-written
returns-then-is_empty-clause-written g c =
    let s = c.args.self.now in
    let none = nil_from_length s.pending.items (omega (arith, s.pending.ok.0, eqb-true _ 0 (sym c.if-is_empty.ensures))) in
    ([], Appends-nil _, rw none (FinishesOrFails-none g.S.Answerer.answering s.store))

pub returns-in_err-answer_line-clause-written : goal.returns-in_err-answer_line-clause-written
returns-in_err-answer_line-clause-written g c =
    let p = err_from_is_err_and c.from_residual.result c.from_residual.ensures.1 in
    let s = c.args.self.now in
    ([], Appends-nil _, rw (p.1, p.2) (FinishesOrFails-stays g.S.Answerer.answering s.store s.pending.items))

pub returns-clause-written : goal.returns-clause-written
returns-clause-written g c =
    let s = c.args.self.now in
    let a = c.in_ok-answer_line.ensures.answered in
    let w = c.write_answers.ensures.written in
    let none = eqb-false _ 0 (sym c.if-is_empty.ensures) in
    let some : (length s.pending.items == 0) ≡ false = ne_eqb _ 0 (λ e. none (omega (arith, s.pending.ok.0))) in
    let piece : a.0 ≡ w.0 ++ w.1 = sym (rw c.requires at a.1) ∙ w.3 in
    (w.0, w.2, FinishesOrFails-line g.S.Answerer.answering c.write_answers.result s.store s.pending.items w.0 w.1 some (rw (append-nil, piece) at a.2.0) w.4 c.write_answers.ensures.kind)
