use Rattle.vers_wavelet.proofs.Names.{arith}
use Rattle.vers_wavelet.proofs.Makes.{low_made, plain_made, too_wide}
use Rattle.vers_wavelet.proofs.wavelet.WaveletMatrix.from_slice_pc.Goals as goal

pub returns-clause-items : goal.returns-clause-items
returns-clause-items g c =
    plain_made c.counted.result c.args.numbers.now c.args.bits_per_element
    (low_made (λ y. y) c.counted.result c.args.numbers.now c.new-source.result.numbers.now c.args.bits_per_element c.new-source.result.width
    c.new-source.ensures.width c.new-source.ensures.none c.new-source.ensures.all c.counted.ensures.items)

pub returns-clause-too_wide : goal.returns-clause-too_wide
returns-clause-too_wide g c = λ wide. too_wide c.counted.result c.new-source.result.width c.counted.ensures.narrow (omega (arith, wide, c.new-source.ensures.width))
