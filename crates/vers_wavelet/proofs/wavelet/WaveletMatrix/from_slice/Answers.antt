use Rattle.vers_wavelet.proofs.Makes.{plain_made}
use Rattle.vers_wavelet.proofs.wavelet.WaveletMatrix.from_slice.Goals as goal

pub returns-in_default-clause-items : goal.returns-in_default-clause-items
returns-in_default-clause-items g c = plain_made c.from_integers.result c.args.numbers.now c.args.bits_per_element c.from_integers.ensures.items
