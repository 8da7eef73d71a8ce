use Rattle.vers_wavelet.proofs.Names.{arith}
use Rattle.vers_wavelet.proofs.Gathered.{gathered_is}
use Rattle.vers_wavelet.proofs.Lists.{count_is}
use Rattle.vers_wavelet.proofs.wavelet.WaveletMatrix.gathered_between.Goals as goal

pub narrow-part-requires-clause-levels : goal.narrow-part-requires-clause-levels
narrow-part-requires-clause-levels g c = rw c.len.ensures.value c.levels.ensures.levels

pub returns-clause-start : goal.returns-clause-start
returns-clause-start g c = λ some.
    rw (c.levels.ensures.wide, c.levels.ensures.items) at (gathered_is c.levels.ensures.levels c.args.symbol c.args.start c.narrow-part.result.start (omega (arith, c.requires.order)) (c.narrow-part.ensures.leads some))

pub returns-clause-end : goal.returns-clause-end
returns-clause-end g c = grind (arith, count_is)

pub returns-clause-adds : goal.returns-clause-adds
returns-clause-adds g c = rw (← c.levels.ensures.wide) c.narrow-part.ensures.adds
