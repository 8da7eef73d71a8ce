use Rattle.vers_wavelet.proofs.Names.{length}
use Rattle.vers_wavelet.proofs.Lists.{values_fit}
use Rattle.vers_wavelet.proofs.wavelet.WaveletMatrix.bits_per_element.Goals as goal

pub returns-clause-fit : goal.returns-clause-fit
returns-clause-fit g c = rw (c.levels.ensures.wide, c.levels.ensures.items) at (values_fit c.levels.result.now (length c.args.self.now.items))
