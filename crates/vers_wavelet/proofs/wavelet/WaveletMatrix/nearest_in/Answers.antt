use Rattle.vers_wavelet.proofs.Names.{adds_weaker, arith}
use Rattle.vers_wavelet.proofs.Ranges.{elements_inside}
use Rattle.vers_wavelet.proofs.wavelet.WaveletMatrix.nearest_in.Goals as goal

pub returns-clause-found : goal.returns-clause-found
returns-clause-found g c = λ t.
    rw (elements_inside c.args.self.now.items c.args.start c.args.end c.requires.within) (rw (c.levels.ensures.wide, c.len.ensures.value, c.levels.ensures.items) at (c.find_nearest.ensures.found t))

pub returns-clause-none : goal.returns-clause-none
returns-clause-none g c = λ f.
    rw (elements_inside c.args.self.now.items c.args.start c.args.end c.requires.within) (rw (c.levels.ensures.wide, c.len.ensures.value, c.levels.ensures.items) at (c.find_nearest.ensures.none f))

pub find_nearest-requires-clause-levels : goal.find_nearest-requires-clause-levels
find_nearest-requires-clause-levels g c = rw c.len.ensures.value c.levels.ensures.levels

pub returns-clause-adds : goal.returns-clause-adds
returns-clause-adds g c = rw (← c.levels.ensures.wide) (adds_weaker c.find_nearest.ensures.adds (omega arith))
