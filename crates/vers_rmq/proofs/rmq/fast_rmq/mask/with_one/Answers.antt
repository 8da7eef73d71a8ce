use Rattle.vers_rmq.proofs.Names.{bit_at_set_same, w64, bit_at_set_other}
use Rattle.vers_rmq.proofs.rmq.fast_rmq.mask.with_one.Goals as goal

pub returns : goal.returns
returns c = record { here = bit_at_set_same w64 c.args.bits c.args.d c.requires; others = λ q ne. bit_at_set_other w64 c.args.bits c.args.d c.requires q ne }
