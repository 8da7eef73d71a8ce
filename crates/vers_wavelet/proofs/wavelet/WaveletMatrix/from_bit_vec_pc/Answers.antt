use Rattle.vers_wavelet.proofs.Names.{arith}
use Rattle.vers_wavelet.proofs.Makes.{packed_made, too_wide}
use Rattle.vers_wavelet.proofs.wavelet.WaveletMatrix.from_bit_vec_pc.Goals as goal

pub returns-clause-items : goal.returns-clause-items
returns-clause-items g c =
    packed_made c.counted.result c.args.bits.now c.new-source.result.bits.now c.args.bits_per_element c.new-source.result.width
    c.new-source.ensures.bits c.new-source.ensures.width c.counted.ensures.items

pub returns-clause-too_wide : goal.returns-clause-too_wide
returns-clause-too_wide g c = λ wide. too_wide c.counted.result c.new-source.result.width c.counted.ensures.narrow (omega (arith, wide, c.new-source.ensures.width))
