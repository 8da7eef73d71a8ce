use Rattle.vers_wavelet.proofs.Sizes.{same_levels}
use Rattle.vers_wavelet.proofs.wavelet.sizes.WaveletMatrixClone.clone.Goals as goal

pub invariant_of-result : goal.invariant_of-result
invariant_of-result g c = rw (same_levels c.self.inside.levels.items c.in_ok-levels.levels.items c.in_ok-levels.ensures.cases.0) c.self.invariant

pub returns : goal.returns
returns g c = record { cases = rw (same_levels c.self.inside.levels.items c.in_ok-levels.levels.items c.in_ok-levels.ensures.cases.0) c.self.view_is }
