use Rattle.wavelet_tree.proofs.Names.{arith, ◌∙◌, ◌≡◌, ◌-◌, sym}
use Rattle.wavelet_tree.proofs.Splits.{half_here, half_next, half_none}
use Rattle.wavelet_tree.proofs.grow.half_of.Goals as goal

pub returns-then-starts-symbol-clause-value : goal.returns-then-starts-symbol-clause-value
returns-then-starts-symbol-clause-value c = sym (half_here c.args.starts.now c.args.elements c.loop-symbol.symbol _ c.if-starts-symbol.true) ∙ c.loop-symbol.invariant

pub loop-symbol-preserved : goal.loop-symbol-preserved
loop-symbol-preserved c = half_next c.args.starts.now c.args.elements c.loop-symbol.symbol _ c.args.end (omega arith) c.loop-symbol-test.true c.if-starts-symbol.false ∙ c.loop-symbol.invariant

pub returns-clause-value : goal.returns-clause-value
returns-clause-value c =
    let none : c.args.end - c.loop-symbol.symbol ≡ 0 = omega (arith, c.loop-symbol-test.false) in
    omega (arith, c.loop-symbol.auto.symbol-end c.requires.order, c.loop-symbol-test.false, half_none c.args.starts.now c.args.elements c.loop-symbol.symbol (c.args.end - c.loop-symbol.symbol) none, c.loop-symbol.invariant)
