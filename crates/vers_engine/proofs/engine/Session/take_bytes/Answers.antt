use Rattle.vers_engine.proofs.Names.{◌≡◌, ◌++◌, take, sym, ap, ◌∙◌, append_assoc, eqb-true, append-nil, nil_from_length, take_rest, take-append-drop, err_from_is_err_and, Write, Memory}
use Rattle.std.proofs.KnownBytes.{Appends-trans}
use Rattle.vers_engine.proofs.Steps.{TakesOrFails-then, TakesOrFails-fails, TakesOrFails-cut}
use Rattle.vers_engine.proofs.engine.Session.take_bytes.Goals as goal

pub returns-in_err-write_answers-clause-written : goal.returns-in_err-write_answers-clause-written
returns-in_err-write_answers-clause-written g c =
    let i = c.loop-rest.invariant in
    let t = c.take_lines-answered.ensures.taken in
    let w = c.in_err-write_answers.ensures.written in
    let p = err_from_is_err_and c.from_residual.result c.from_residual.ensures.1 in
    let s = c.args.self.now in
    let l = c.loop-rest.self in
    let rest = c.loop-rest.rest.now in
    let piece : t.0 ≡ w.0 ++ w.1 = sym (rw i.gathered at t.1) ∙ w.3 in
    let cut = TakesOrFails-cut g.S.Answerer.answering c.take_lines-answered.result l.store l.pending.items rest w.0 w.1 _ _ l.store l.pending.items (rw piece at t.2) in (
      i.text ++ w.0,
      Appends-trans _ _ _ _ _ i.appended w.2,
      rw (p.1, p.2, c.in_err-write_answers.ensures.kind, i.parts)
          (TakesOrFails-fails g.S.Answerer.answering Write s.store s.pending.items i.taken i.text l.store l.pending.items rest w.0 l.store l.pending.items l.store l.pending.items i.took cut),
    )

pub returns-in_err-taken-clause-written : goal.returns-in_err-taken-clause-written
returns-in_err-taken-clause-written g c =
    let i = c.loop-rest.invariant in
    let t = c.in_err-taken.ensures.taken in
    let w = c.in_ok-write_answers.ensures.written in
    let p = err_from_is_err_and c.from_residual-in_err-taken.result c.from_residual-in_err-taken.ensures.1 in
    let s = c.args.self.now in
    let l = c.loop-rest.self in
    let rest = c.loop-rest.rest.now in
    let piece : t.0 ≡ w.0 = sym (rw i.gathered at t.1) ∙ w.3 ∙ ap (λ more. w.0 ++ more) w.4 ∙ append-nil w.0 in (
      i.text ++ w.0,
      Appends-trans _ _ _ _ _ i.appended w.2,
      rw (p.1, p.2, i.parts)
          (TakesOrFails-fails g.S.Answerer.answering Memory s.store s.pending.items i.taken i.text l.store l.pending.items rest w.0 l.store l.pending.items l.store l.pending.items i.took (rw piece at t.2)),
    )

pub loop-rest-preserved : goal.loop-rest-preserved
loop-rest-preserved g c =
    let i = c.loop-rest.invariant in
    let t = c.in_ok-taken.ensures.taken in
    let w = c.in_ok-write_answers.ensures.written in
    let s = c.args.self.now in
    let l = c.loop-rest.self in
    let rest = c.loop-rest.rest.now in
    let n = c.in_ok-taken.taken in
    let piece : t.0 ≡ w.0 = sym (rw i.gathered at t.1) ∙ w.3 ∙ ap (λ more. w.0 ++ more) w.4 ∙ append-nil w.0 in
    record {
      taken = i.taken ++ take n rest;
      parts = rw (take_rest, append_assoc, take-append-drop) i.parts;
      text = i.text ++ w.0;
      appended = Appends-trans _ _ _ _ _ i.appended w.2;
      took = rw (c.in_ok-write_answers.ensures.store, c.in_ok-write_answers.ensures.pending)
          (TakesOrFails-then g.S.Answerer.answering s.store s.pending.items i.taken i.text l.store l.pending.items (take n rest) w.0 _ _ i.took (rw piece at t.2));
      gathered = c.in_ok-write_answers.ensures.answers;
      fine = c.in_ok-write_answers.ensures.fault ∙ i.fine;
    }

pub returns-clause-written : goal.returns-clause-written
returns-clause-written g c =
    let i = c.loop-rest.invariant in
    let none = nil_from_length c.loop-rest.rest.now (eqb-true _ 0 (sym c.loop-rest-test.ensures)) in
    (i.text, i.appended, rw (i.parts, none, append-nil) i.took)
