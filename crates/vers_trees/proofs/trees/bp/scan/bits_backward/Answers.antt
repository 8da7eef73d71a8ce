use Rattle.vers_trees.proofs.Names.{◌-◌, arith, w64, to_z, of_z, sym, ap, ◌∙◌, to_z-of_z, adds_then}
use Rattle.vers_trees.proofs.searches.Scans.{backward_bit}
use Rattle.vers_trees.proofs.trees.bp.scan.bits_backward.Goals as goal

pub overflow_sub-rise : goal.overflow_sub-rise
overflow_sub-rise g c =
    let r = c.requires.passed in let r1 = r.1 in let r2 = r.2 in
    (backward_bit c.args.bits.now c.args.begin (c.loop-position.position - 1) c.loop-position.position r.0 _ _ c.step-rise.result _ (c.loop-position.invariant.passed r.0 r1 r2 (rw (to_z-of_z w64 c.args.target c.ranges.target, to_z-of_z w64 c.args.rise c.ranges.rise) r.3)) c.requires.short (omega arith) (omega arith) r2 (omega arith) c.is_one_counted.ensures.value c.step-rise.ensures).0

pub returns-then-rise-target-clause-value : goal.returns-then-rise-target-clause-value
returns-then-rise-target-clause-value g c = λ to o n q.
    let t = to_z-of_z w64 c.args.target c.ranges.target in
    let b = backward_bit c.args.bits.now c.args.begin (c.loop-position.position - 1) c.loop-position.position to _ _ c.step-rise.result _ (c.loop-position.invariant.passed to o n (rw (t, to_z-of_z w64 c.args.rise c.ranges.rise) q)) c.requires.short (omega arith) (omega arith) n (omega arith) c.is_one_counted.ensures.value c.step-rise.ensures in
    rw t at (b.1 (sym (to_z-of_z w64 _ b.0) ∙ ap (to_z w64) c.if-rise-target.true))

pub loop-position-preserved : goal.loop-position-preserved
loop-position-preserved g c = record {
  low = omega arith;
  high = omega arith;
  passed = λ to o n q. (backward_bit c.args.bits.now c.args.begin (c.loop-position.position - 1) c.loop-position.position to _ _ c.step-rise.result _ (c.loop-position.invariant.passed to o n q) c.requires.short (omega arith) (omega arith) n (omega arith) c.is_one_counted.ensures.value c.step-rise.ensures).2
      (λ z. c.if-rise-target.false (ap (of_z w64) (z ∙ to_z-of_z w64 c.args.target c.ranges.target)));
  reads = adds_then c.loop-position.invariant.reads c.is_one_counted.ensures.adds (grind arith);
}
