use Rattle.vers_wavelet.proofs.Names.{refl}
use Rattle.vers_wavelet.proofs.wavelet.WaveletMatrix.into_iter_sorted_u64.Goals as goal

pub new-requires : goal.new-requires
new-requires g c = c.fits_word.ensures.0 c.if-not-fits_word.false

pub returns-clause-answered : goal.returns-clause-answered
returns-clause-answered g c = (λ t. c.fits_word.ensures.0 c.if-not-fits_word.false, λ h. refl)
