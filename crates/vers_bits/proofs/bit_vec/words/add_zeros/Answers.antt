use Rattle.vers_bits.proofs.Names.{arith}
use Rattle.vers_bits.proofs.Holds.{resized}
use Rattle.vers_bits.proofs.bit_vec.words.add_zeros.Goals as goal

pub returns-clause-grown : goal.returns-clause-grown
returns-clause-grown g c =
    let words = c.args.words.now in
    resized words.items c.resize.new.self.items c.args.len c.args.n c.div_ceil.result words.len c.requires.held c.requires.short (omega arith) (omega (arith, words.ok))
    c.in_ok-resize.ensures.items
