use Rattle.vers_bits.proofs.Names.{◌≡◌, ◌++◌, ◌∷◌, [], arith, common_steps, bool_byte}
use Rattle.vers_bits.proofs.Words.{adds_by_push}
use Rattle.vers_bits.proofs.Edits.{adds_by_set}
use Rattle.vers_bits.proofs.bit_vec.words.add_bit.Goals as goal

pub returns-then-used-eq0-clause-grown : goal.returns-then-used-eq0-clause-grown
returns-then-used-eq0-clause-grown g c =
    let pushed : c.push.new.self.items ≡ c.args.words.now.items ++ bool_byte c.args.bit ∷ [] = grind (arith, common_steps) in
    adds_by_push _ _ _ _ c.requires c.if-used-eq0.true pushed

pub returns-then-bit-clause-grown : goal.returns-then-bit-clause-grown
returns-then-bit-clause-grown g c =
    adds_by_set _ _ _ _ c.requires (omega arith) c.index_mut.ensures.value c.if-bit.true
