use Rattle.vers_wavelet.proofs.Names.{ap, ◌/◌, ◌∙◌}
use Rattle.vers_wavelet.proofs.Makes.{unpacked_length, unpacked_made}
use Rattle.vers_wavelet.proofs.wavelet.WaveletMatrix.of_packed.Goals as goal

pub returns-clause-items : goal.returns-clause-items
returns-clause-items g c =
    unpacked_made g.N.Integer.value c.of_items.result c.in_ok-numbers.numbers.items c.args.bits.now c.args.bits_per_element c.new-source.result.width
    c.new-source.ensures.width c.in_ok-numbers.ensures c.of_items.ensures.items

pub of_items-requires-clause-len : goal.of_items-requires-clause-len
of_items-requires-clause-len g c =
    ap (λ n. n / c.args.bits_per_element) c.len.ensures.value
    ∙ unpacked_length g.N.Integer.value c.in_ok-numbers.numbers.items c.args.bits.now c.args.bits_per_element c.in_ok-numbers.ensures
