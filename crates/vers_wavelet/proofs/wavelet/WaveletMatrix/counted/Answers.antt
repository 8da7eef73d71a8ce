use Rattle.vers_wavelet.proofs.Names.{length, ap, ◌∙◌, arith}
use Rattle.vers_wavelet.proofs.Makes.{length-levels_of, are_levels, symbols_made}
use Rattle.vers_wavelet.proofs.wavelet.WaveletMatrix.counted.Goals as goal

pub invariant_of-result : goal.invariant_of-result
invariant_of-result g c = are_levels _ _ _ _ _ c.in_ok-levels.ensures.made c.len-len.ensures.value (λ z. absurd (omega arith)) (omega arith) c.len-len.ensures.bounded

pub returns-clause-items : goal.returns-clause-items
returns-clause-items g c = symbols_made _ _ _ _ _ c.in_ok-levels.ensures.made c.len-len.ensures.value

pub returns-clause-width : goal.returns-clause-width
returns-clause-width g c = ap length c.in_ok-levels.ensures.made ∙ length-levels_of _ _ _

pub returns-clause-narrow : goal.returns-clause-narrow
returns-clause-narrow g c = c.in_ok-levels.ensures.narrow
