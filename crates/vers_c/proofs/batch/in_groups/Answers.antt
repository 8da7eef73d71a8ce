use Rattle.vers_c.proofs.Names.{◌+◌, ◌-◌, map, take, arith, put_mid, answered_row}
use Rattle.std.proofs.Common.{◌≡◌, ℕ, ◌++◌, drop, subst, sym}
use Rattle.vers_c.proofs.Batches.{group_more}
use Rattle.vers_c.proofs.batch.in_groups.Goals as goal

pub loop-from-preserved : goal.loop-from-preserved
loop-from-preserved g c =
    let from = c.loop-from.from in
    let n = c.min-n.result in
    let rows = c.loop-from.rows in
    let now = c.ask_group.new.rows in
    let answered = answered_row g.R.Row.ask g.R.Row.with_answer (g.B.Batch.answers c.args.batch c.args.structure.now) c.args.other c.args.b c.args.c in
    let size : from + n - from ≡ n = omega arith in
    record {
      within = omega arith;
      answered = subst (λ (k : ℕ). put_mid from k rows now ≡ map answered (take (from + n) c.args.rows.now) ++ drop (from + n) c.args.rows.now) (sym size)
          (group_more answered c.args.rows.now rows now from n (omega arith) c.loop-from.invariant.answered (subst (λ (k : ℕ). now ≡ map answered (take k (drop from rows))) size c.ask_group.ensures));
    }
