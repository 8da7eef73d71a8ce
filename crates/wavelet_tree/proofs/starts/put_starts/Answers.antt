use Rattle.wavelet_tree.proofs.Names.{arith, refl, map, length-map, length-set}
use Rattle.wavelet_tree.proofs.Lesser.{starts_none, starts_more, lesser_zero}
use Rattle.wavelet_tree.proofs.starts.put_starts.Goals as goal

pub loop-number-init : goal.loop-number-init
loop-number-init g c = record {
  starts = starts_none (map g.T.Integer.value c.args.items.now) c.count_symbols.new.counts c.count_symbols.ensures.are;
  before = omega (arith, lesser_zero (map g.T.Integer.value c.args.items.now));
  long = refl;
}

pub overflow_add-before : goal.overflow_add-before
overflow_add-before g c =
    let more =
    starts_more (map g.T.Integer.value c.args.items.now) c.loop-number.starts c.loop-number.number c.loop-number.before (omega arith) c.loop-number.invariant.before c.loop-number.invariant.starts in
    omega (arith, more.2, length-map c.args.items.now g.T.Integer.value, c.count_symbols.ensures.few)

pub loop-number-preserved : goal.loop-number-preserved
loop-number-preserved g c =
    let more =
    starts_more (map g.T.Integer.value c.args.items.now) c.loop-number.starts c.loop-number.number c.loop-number.before (omega arith) c.loop-number.invariant.before c.loop-number.invariant.starts in
    record { starts = more.0; before = more.1; long = omega (arith, length-set c.loop-number.starts c.loop-number.number c.loop-number.before, c.loop-number.invariant.long) }
