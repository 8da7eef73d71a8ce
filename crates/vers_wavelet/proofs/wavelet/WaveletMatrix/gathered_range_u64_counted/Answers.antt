use Rattle.vers_wavelet.proofs.Names.{arith, false≢true}
use Rattle.vers_wavelet.proofs.Lists.{no_positions}
use Rattle.vers_wavelet.proofs.wavelet.WaveletMatrix.gathered_range_u64_counted.Goals as goal
use Rattle.vers_wavelet.proofs.wavelet.WaveletMatrix.gathered_range_u64_counted.Goals.{then-not-fits_word-via-then-not-fits_word, then-not-fits_word-via-else-not-fits_word+then-range-len, then-not-fits_word-via-else-not-fits_word+else-range-len+then-range}

pub returns-then-not-fits_word-clause-answered : goal.returns-then-not-fits_word-clause-answered
returns-then-not-fits_word-clause-answered g c = grind (arith, false≢true, no_positions)
