use Rattle.vers_saved.proofs.Names.{arith}
use Rattle.vers_saved.proofs.Rows.{row_inside}
use Rattle.vers_saved.proofs.words.is_padded.Goals as goal

pub row_is_padded-holds-requires-clause-within : goal.row_is_padded-holds-requires-clause-within
row_is_padded-holds-requires-clause-within g c = omega (arith, c.requires.long, row_inside c.args.rows.count c.args.rows.bits c.loop-k.k c.loop-k-test.true)

pub row_is_padded-holds-requires-clause-small : goal.row_is_padded-holds-requires-clause-small
row_is_padded-holds-requires-clause-small g c = omega (arith, c.requires.small, row_inside c.args.rows.count c.args.rows.bits c.loop-k.k c.loop-k-test.true)
