use Rattle.vers_engine.proofs.Names.{◌++◌, take, drop, append_assoc, arith, take_rest, take-append-drop, length-drop, err_from_is_err_and, Memory}
use Rattle.std.proofs.Math.Seq.{take-add}
use Rattle.vers_engine.proofs.Steps.{TakesOrFails-then, TakesOrFails-fails}
use Rattle.vers_engine.proofs.engine.Session.take_lines.Goals as goal

pub returns-in_err-taken-clause-taken : goal.returns-in_err-taken-clause-taken
returns-in_err-taken-clause-taken g c =
    let i = c.loop-taken.invariant in
    let w = c.in_err-taken.ensures.taken in
    let p = err_from_is_err_and c.from_residual.result c.from_residual.ensures.1 in
    let s = c.args.self.now in
    let l = c.loop-taken.self in
    let bs = c.args.bytes.now in
    let n = c.loop-taken.taken in
    let fails = TakesOrFails-fails g.S.Answerer.answering Memory s.store s.pending.items (take n bs) i.text l.store l.pending.items (drop n bs) w.0 l.store l.pending.items l.store l.pending.items i.took (rw take_rest at w.2) in
    (i.text ++ w.0, rw (w.1, i.gathered) (append_assoc s.answers.items i.text w.0), rw p.1 (rw (take-append-drop n bs) at fails))

pub loop-taken-preserved : goal.loop-taken-preserved
loop-taken-preserved g c =
    let i = c.loop-taken.invariant in
    let w = c.in_ok-taken.ensures.taken in
    let s = c.args.self.now in
    let l = c.loop-taken.self in
    let bs = c.args.bytes.now in
    let n = c.loop-taken.taken in
    let m = c.in_ok-taken.field-0 in
    let fits = rw (take_rest, length-drop) at c.in_ok-taken.ensures.within in
    let some = rw (take_rest, length-drop) at c.in_ok-taken.ensures.progress in
    record {
      within = omega (arith, fits);
      text = i.text ++ w.0;
      gathered = rw (w.1, i.gathered) (append_assoc s.answers.items i.text w.0);
      took = rw (take-add n m bs)
          (TakesOrFails-then g.S.Answerer.answering s.store s.pending.items (take n bs) i.text l.store l.pending.items (take m (drop n bs)) w.0 _ _ i.took (rw take_rest at w.2));
      first = λ e. absurd (omega (arith, some (omega arith)));
    }
