use Rattle.vers_trees.proofs.Names.{arith, w64, to_z, of_z, sym, ap, ◌∙◌, to_z-of_z, adds_then}
use Rattle.vers_trees.proofs.searches.Scans.{forward_bit}
use Rattle.vers_trees.proofs.trees.bp.scan.bits_forward.Goals as goal

pub overflow_add-rise : goal.overflow_add-rise
overflow_add-rise g c =
    let o = c.requires.passed.1 in
    (forward_bit c.args.bits.now c.requires.passed.0 c.loop-position.position c.args.end _ _ c.step-rise.result _ (c.loop-position.invariant.passed c.requires.passed.0 o (rw (to_z-of_z w64 c.args.target c.ranges.target, to_z-of_z w64 c.args.rise c.ranges.rise) c.requires.passed.2)) c.requires.short (omega arith) c.loop-position-test.true c.requires.inside c.is_one_counted.ensures.value c.step-rise.ensures).0

pub returns-then-rise-target-clause-value : goal.returns-then-rise-target-clause-value
returns-then-rise-target-clause-value g c = λ from o q.
    let t = to_z-of_z w64 c.args.target c.ranges.target in
    let b = forward_bit c.args.bits.now from c.loop-position.position c.args.end _ _ c.step-rise.result _ (c.loop-position.invariant.passed from o (rw (t, to_z-of_z w64 c.args.rise c.ranges.rise) q)) c.requires.short (omega arith) c.loop-position-test.true c.requires.inside c.is_one_counted.ensures.value c.step-rise.ensures in
    rw t at (b.1 (sym (to_z-of_z w64 _ b.0) ∙ ap (to_z w64) c.if-rise-target.true))

pub loop-position-preserved : goal.loop-position-preserved
loop-position-preserved g c = record {
  passed = λ from o q. (forward_bit c.args.bits.now from c.loop-position.position c.args.end _ _ c.step-rise.result _ (c.loop-position.invariant.passed from o q) c.requires.short (omega arith) c.loop-position-test.true c.requires.inside c.is_one_counted.ensures.value c.step-rise.ensures).2
      (λ z. c.if-rise-target.false (ap (of_z w64) (z ∙ to_z-of_z w64 c.args.target c.ranges.target)));
  reads = adds_then c.loop-position.invariant.reads c.is_one_counted.ensures.adds (grind arith);
}
