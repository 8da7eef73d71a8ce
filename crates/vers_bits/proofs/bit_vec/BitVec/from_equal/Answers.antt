use Rattle.vers_bits.proofs.Names.{◌≡◌, replicate, arith, common_steps, limb_count}
use Rattle.vers_bits.proofs.Filling.{filled_bits}
use Rattle.vers_bits.proofs.bit_vec.BitVec.from_equal.Goals as goal

pub returns-clause-made : goal.returns-clause-made
returns-clause-made g c =
    let filled : c.resize.new.self.items ≡ replicate (limb_count c.args.n) c.equal_word-word.result = grind (arith, common_steps) in
    filled_bits c.cut.ensures c.args.bit c.equal_word-word.result c.equal_word-word.ensures filled
