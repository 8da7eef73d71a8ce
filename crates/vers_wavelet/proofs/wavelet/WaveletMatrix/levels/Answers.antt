use Rattle.vers_wavelet.proofs.Names.{ap, length}
use Rattle.vers_wavelet.proofs.Lists.{length-values}
use Rattle.vers_wavelet.proofs.wavelet.WaveletMatrix.levels.Goals as goal

pub returns-clause-levels : goal.returns-clause-levels
returns-clause-levels g c = rw (← c.self.view_is, length-values c.self.inside.levels.items c.self.inside.len, c.deref.ensures.value) c.self.invariant

pub returns-clause-wide : goal.returns-clause-wide
returns-clause-wide g c = rw (← c.self.view_is) (ap length c.deref.ensures.value)

pub returns-clause-items : goal.returns-clause-items
returns-clause-items g c = rw (← c.self.view_is, length-values c.self.inside.levels.items c.self.inside.len, c.deref.ensures.value)
