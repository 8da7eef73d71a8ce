use Rattle.vers_bits.proofs.Names.{get_or_read}
use Rattle.vers_bits.proofs.Edits.{puts_one, puts_zero}
use Rattle.vers_bits.proofs.bit_vec.words.put_bit.Goals as goal

pub returns-then-bit : goal.returns-then-bit
returns-then-bit g c = rw (get_or_read _ _ _ c.requires c.index_mut.ensures.value 0, c.if-bit.true) (puts_one c.args.words.now.items c.args.position c.requires)

pub returns : goal.returns
returns g c = rw (get_or_read _ _ _ c.requires c.index_mut-2.ensures.value 0, c.if-bit.false) (puts_zero c.args.words.now.items c.args.position c.requires)
