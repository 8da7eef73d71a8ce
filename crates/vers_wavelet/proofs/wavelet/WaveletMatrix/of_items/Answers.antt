use Rattle.vers_wavelet.proofs.Names.{length, sym, ap, ◌∙◌}
use Rattle.vers_wavelet.proofs.Makes.{length-levels_of, are_levels, symbols_made}
use Rattle.vers_wavelet.proofs.wavelet.WaveletMatrix.of_items.Goals as goal

pub invariant_of-result : goal.invariant_of-result
invariant_of-result g c = are_levels _ _ _ _ _ c.in_ok-levels.ensures c.requires.len (λ z. sym c.requires.len ∙ c.requires.none z) c.requires.narrow c.requires.short

pub returns-clause-items : goal.returns-clause-items
returns-clause-items g c = symbols_made _ _ _ _ _ c.in_ok-levels.ensures c.requires.len

pub returns-clause-width : goal.returns-clause-width
returns-clause-width g c = ap length c.in_ok-levels.ensures ∙ length-levels_of _ _ _
