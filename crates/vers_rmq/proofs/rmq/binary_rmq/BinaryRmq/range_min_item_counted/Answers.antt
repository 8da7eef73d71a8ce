use Rattle.vers_rmq.proofs.Names.{arith}
use Rattle.vers_rmq.proofs.Found.{is_least_position}
use Rattle.vers_rmq.proofs.Tables.{asked}
use Rattle.vers_rmq.proofs.rmq.binary_rmq.BinaryRmq.range_min_item_counted.Goals as goal

pub returns-clause-position : goal.returns-clause-position
returns-clause-position g c = is_least_position _ _ _ _ (grind (arith, asked))
