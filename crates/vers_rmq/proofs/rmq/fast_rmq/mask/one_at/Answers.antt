use Rattle.vers_rmq.proofs.Names.{bit_at-pow_same, ◌∙◌, one_shl, sym, bit_at-zero, bit_at-pow_other}
use Rattle.vers_rmq.proofs.rmq.fast_rmq.mask.one_at.Goals as goal

pub returns : goal.returns
returns c = rw (one_shl c.args.d 128 c.requires) (record { here = bit_at-pow_same c.args.d; others = λ q ne. bit_at-pow_other c.args.d q ne ∙ sym (bit_at-zero q) })
