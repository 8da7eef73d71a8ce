use Rattle.vers_wavelet.proofs.Makes.{lowered_length, lowered_made}
use Rattle.vers_wavelet.proofs.wavelet.WaveletMatrix.of_low.Goals as goal

pub returns-clause-items : goal.returns-clause-items
returns-clause-items g c =
    lowered_made g.N.Integer.value c.of_items.result c.in_ok-low.low.items c.args.numbers.now c.args.bits_per_element c.new-source.result.width
    c.requires.some c.new-source.ensures.width c.in_ok-low.ensures c.of_items.ensures.items

pub of_items-requires-clause-len : goal.of_items-requires-clause-len
of_items-requires-clause-len g c = lowered_length g.N.Integer.value c.in_ok-low.low.items c.args.numbers.now c.args.bits_per_element c.requires.some c.in_ok-low.ensures
