use Rattle.vers_wavelet.proofs.Names.{◌≡◌, ◌∙◌, length, get_or, get_or_default, sym, ap, inl, inr, arith, cases_lt, false≢true, eq-eqb}
use Rattle.vers_wavelet.proofs.wavelet.by_levels.common_len.Goals as goal

pub loop-k-preserved : goal.loop-k-preserved
loop-k-preserved g c = λ i d h. elim (cases_lt i c.loop-k.k) [
  | inl before ↦ c.loop-k.invariant i d before
  | inr here ↦
      let same : c.loop-k.k ≡ i = omega arith in
      let at = ap (λ j. length (get_or c.args.levels.now j d)) (sym same) ∙ ap length (get_or_default c.args.levels.now c.loop-k.k d c.index-levels-k.result (omega arith)) ∙ ap length (sym c.index-levels-k.is) in
      omega (arith, at)
]

pub returns-clause-levels : goal.returns-clause-levels
returns-clause-levels g c = record {
  even = λ k d h. c.loop-k.invariant k d (omega arith);
  none = λ z. absurd (false≢true (c.if-is_empty.ensures ∙ eq-eqb (length c.args.levels.now) 0 z));
  bounded = omega arith;
  narrow = omega arith;
}
