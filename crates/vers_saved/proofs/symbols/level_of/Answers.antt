use Rattle.vers_saved.proofs.Names.{◌∙◌, ap, arith, limbs, pack, take, IfOk-weaker}
use Rattle.vers_saved.proofs.LimbLists.{limbs-first}
use Rattle.vers_saved.proofs.symbols.level_of.Goals as goal

pub returns-clause-limbs : goal.returns-clause-limbs
returns-clause-limbs g c =
    IfOk-weaker c.from_bit_vec.result _ _ (λ v is. ap limbs (is ∙ c.first_bits.ensures.value ∙ ap (λ l. take c.args.len (pack l 64)) c.in_ok-from_slice.ensures.items)
    ∙ limbs-first c.args.words.now c.args.len c.requires.counted (λ k. omega (arith, c.type_inv.words k)) c.requires.padded) c.from_bit_vec.ensures
