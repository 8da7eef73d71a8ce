use Rattle.vers_wavelet.proofs.Lists.{length-values}
use Rattle.vers_wavelet.proofs.wavelet.WaveletMatrix.len.Goals as goal

pub returns-clause-value : goal.returns-clause-value
returns-clause-value g c = rw (← c.self.view_is, length-values c.self.inside.levels.items c.self.inside.len)
