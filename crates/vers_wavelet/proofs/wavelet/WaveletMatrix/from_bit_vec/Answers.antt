use Rattle.vers_wavelet.proofs.Makes.{packed_made}
use Rattle.vers_wavelet.proofs.wavelet.WaveletMatrix.from_bit_vec.Goals as goal

pub returns-in_default-clause-items : goal.returns-in_default-clause-items
returns-in_default-clause-items g c =
    packed_made c.sorted.result c.args.bits.now c.new-source.result.bits.now c.args.bits_per_element c.new-source.result.width
    c.new-source.ensures.bits c.new-source.ensures.width c.sorted.ensures.items
