use Rattle.vers_wavelet.proofs.Gathered.{gathered_is}
use Rattle.vers_wavelet.proofs.wavelet.WaveletMatrix.gathered_from.Goals as goal

pub descend-requires-clause-levels : goal.descend-requires-clause-levels
descend-requires-clause-levels g c = rw c.len.ensures.value c.levels.ensures.levels

pub returns-clause-value : goal.returns-clause-value
returns-clause-value g c =
    rw (c.levels.ensures.wide, c.levels.ensures.items) at (gathered_is c.levels.ensures.levels c.args.symbol c.args.position c.descend.result c.requires.within c.descend.ensures.value)

pub returns-clause-adds : goal.returns-clause-adds
returns-clause-adds g c = rw (← c.levels.ensures.wide) c.descend.ensures.adds
