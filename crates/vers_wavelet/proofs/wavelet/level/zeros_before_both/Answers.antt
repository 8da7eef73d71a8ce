use Rattle.vers_wavelet.proofs.Names.{◌+◌, true, false, sym, ap, arith, ◌∙◌}
use Rattle.vers_wavelet.proofs.Values.{next_single}
use Rattle.vers_wavelet.proofs.wavelet.level.zeros_before_both.Goals as goal

pub returns-then-is_one-clause-last : goal.returns-then-is_one-clause-last
returns-then-is_one-clause-last g c =
    c.zeros_before-first.ensures.value ∙ sym (next_single c.args.level.now c.args.start c.args.end true (omega arith) (omega arith) (sym c.if-is_one.true ∙ c.is_one_counted-is_one.ensures.value))

pub returns-else-is_one-clause-last : goal.returns-else-is_one-clause-last
returns-else-is_one-clause-last g c =
    ap (λ z. z + 1) c.zeros_before-first.ensures.value ∙ sym (next_single c.args.level.now c.args.start c.args.end false (omega arith) (omega arith) (sym c.if-is_one.false ∙ c.is_one_counted-is_one.ensures.value))
