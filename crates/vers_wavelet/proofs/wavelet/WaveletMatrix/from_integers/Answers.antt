use Rattle.vers_wavelet.proofs.Makes.{low_made}
use Rattle.vers_wavelet.proofs.wavelet.WaveletMatrix.from_integers.Goals as goal

pub returns-clause-items : goal.returns-clause-items
returns-clause-items g c =
    low_made g.N.Integer.value c.sorted.result c.args.numbers.now c.new-source.result.numbers.now c.args.bits_per_element c.new-source.result.width
    c.new-source.ensures.width c.new-source.ensures.none c.new-source.ensures.all c.sorted.ensures.items
