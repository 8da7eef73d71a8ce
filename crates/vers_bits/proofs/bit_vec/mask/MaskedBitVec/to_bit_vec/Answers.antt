use Rattle.vers_bits.proofs.Names.{ap, ◌∙◌, masked}
use Rattle.vers_bits.proofs.bit_vec.mask.MaskedBitVec.to_bit_vec.Goals as goal

pub returns : goal.returns
returns g c = rw (← c.self.view_is) (λ f h. c.combine.ensures f h ∙ ap (λ l. masked f l c.self.inside.right.now) c.in_ok-bits.ensures.cases)
