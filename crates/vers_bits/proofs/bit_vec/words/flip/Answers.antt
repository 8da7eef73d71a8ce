use Rattle.vers_bits.proofs.Names.{get_or_read}
use Rattle.vers_bits.proofs.Edits.{puts_other}
use Rattle.vers_bits.proofs.bit_vec.words.flip.Goals as goal

pub returns : goal.returns
returns g c = rw (get_or_read _ _ _ c.requires c.index_mut.ensures.value 0) (puts_other c.args.words.now.items c.args.position c.requires)
