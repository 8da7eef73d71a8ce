use Rattle.vers_engine.proofs.Names.{◌≡◌, ◌==◌, [], take, Some, None, sym, position, append-nil, err_from_is_err_and}
use Rattle.std.proofs.Math.Seq.{take-length}
use Rattle.vers_words.proofs.PublicLaws.{lacks, lacks_before, through_byte}
use Rattle.vers_engine.proofs.Steps.{TakesOrFails-line, TakesOrFails-pending, TakesOrFails-stays}
use Rattle.vers_engine.proofs.engine.Session.take_line.Goals as goal

pub returns-in_err-answer_line-in-Some-clause-taken : goal.returns-in_err-answer_line-in-Some-clause-taken
returns-in_err-answer_line-in-Some-clause-taken g c =
    let a = c.in_err-answer_line-in-Some.ensures.answered in
    let p = err_from_is_err_and c.from_residual.result c.from_residual.ensures.1 in
    let s = c.args.self.now in
    (a.0, a.1, rw (p.1, a.2) (TakesOrFails-stays g.S.Answerer.answering s.store s.pending.items c.args.bytes.now s.store s.pending.items))

pub returns-in_err-extend_from_slice-in-None-clause-taken : goal.returns-in_err-extend_from_slice-in-None-clause-taken
returns-in_err-extend_from_slice-in-None-clause-taken g c =
    let p = err_from_is_err_and c.from_residual-in_err-extend_from_slice-in-None.result c.from_residual-in_err-extend_from_slice-in-None.ensures.1 in
    let s = c.args.self.now in
    ([], sym (append-nil s.answers.items), rw p.1 (TakesOrFails-stays g.S.Answerer.answering s.store s.pending.items c.args.bytes.now s.store s.pending.items))

pub returns-in_ok-answer_line-in-Some-clause-taken : goal.returns-in_ok-answer_line-in-Some-clause-taken
returns-in_ok-answer_line-in-Some-clause-taken g c =
    let a = c.in_ok-answer_line-in-Some.ensures.answered in
    let s = c.args.self.now in
    let bs = c.args.bytes.now in
    let i = c.in-Some.end in
    let found : position (λ b. b == 10) bs ≡ Some i = sym c.in-Some.ensures in (
      a.0,
      a.1,
      rw (through_byte 10 bs i found, c.in_ok-answer_line-in-Some.ensures.pending)
          (TakesOrFails-line g.S.Answerer.answering s.store s.pending.items (take i bs) a.0 _ (lacks_before 10 bs i found) a.2.0 a.2.1),
    )

pub returns-in_ok-extend_from_slice-in-None-clause-taken : goal.returns-in_ok-extend_from_slice-in-None-clause-taken
returns-in_ok-extend_from_slice-in-None-clause-taken g c =
    let s = c.args.self.now in
    let bs = c.args.bytes.now in
    let none : position (λ b. b == 10) bs ≡ None = sym c.in-None.ensures in (
      [],
      sym (append-nil s.answers.items),
      rw (take-length, c.in_ok-extend_from_slice-in-None.ensures.items)
          (TakesOrFails-pending g.S.Answerer.answering s.store s.pending.items bs (lacks 10 bs none)),
    )
