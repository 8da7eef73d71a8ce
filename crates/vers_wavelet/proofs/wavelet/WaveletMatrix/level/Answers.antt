use Rattle.vers_wavelet.proofs.Inverses.{level_is}
use Rattle.vers_wavelet.proofs.wavelet.WaveletMatrix.level.Goals as goal

pub returns-clause-value : goal.returns-clause-value
returns-clause-value g c =
    level_is c.args.self.now c.levels.result.now c.args.k c.index-levels-k.result c.levels.ensures.levels c.levels.ensures.wide c.levels.ensures.items c.requires c.index-levels-k.is
