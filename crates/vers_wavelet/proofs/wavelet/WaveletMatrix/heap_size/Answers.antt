use Rattle.vers_wavelet.proofs.wavelet.WaveletMatrix.heap_size.Goals as goal

pub size_of_levels-requires : goal.size_of_levels-requires
size_of_levels-requires g c = rw c.len.ensures.value c.levels.ensures.levels

pub returns : goal.returns
returns g c = rw (c.levels.ensures.wide, c.len.ensures.value, c.levels.ensures.items) at c.size_of_levels.ensures
