use Rattle.vers_c.proofs.Names.{arith, positions, select, ◌+◌}
use Rattle.std.proofs.Common.{◌≡◌, ℕ, Bool, ◌∙◌, ap, drop, not, nat_eq, slice_index, sym, unwrap_or}
use Rattle.vers_c.proofs.Batches.{run_goes_on, run_taken, written_more}
use Rattle.vers_c.proofs.batch.bits.select_run.Goals as goal

pub loop-k-preserved : goal.loop-k-preserved
loop-k-preserved g c =
    let bit : Bool = not (not (nat_eq g.row.ZERO 0)) in
    let n : ℕ = slice_index c.args.numbers.now 0 + c.loop-k.k in
    let next : n + 1 ≡ slice_index c.args.numbers.now 0 + (c.loop-k.k + 1) = omega arith in
    record {
      left = run_goes_on bit c.args.bits.now c.loop-k.positions.left c.nth.new.self.left c.loop-k.skip n c.nth.result c.loop-k.invariant.left c.nth.ensures.steps
          ∙ ap (λ m. drop m (positions bit c.args.bits.now)) next;
      done = written_more (select bit c.args.bits.now) c.args.numbers.now c.loop-k.numbers c.loop-k.k c.unwrap_or.result 0 (omega arith)
          (c.unwrap_or.ensures ∙ ap (λ d. unwrap_or c.nth.result d) c.len.ensures.value ∙ run_taken bit c.args.bits.now c.loop-k.positions.left c.nth.new.self.left c.loop-k.skip n c.nth.result c.loop-k.invariant.left c.nth.ensures.steps
          ∙ ap (select bit c.args.bits.now) (sym (c.requires c.loop-k.k (omega arith))))
          c.loop-k.invariant.done;
    }
