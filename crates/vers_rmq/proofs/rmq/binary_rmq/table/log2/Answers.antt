use Rattle.vers_rmq.proofs.Names.{arith}
use Rattle.vers_rmq.proofs.Logs.{top_is}
use Rattle.vers_rmq.proofs.rmq.binary_rmq.table.log2.Goals as goal

pub returns : goal.returns
returns c = let top = top_is c.args.a c.requires c.ranges.a.fits in record { low = top.0; high = top.1; few = omega arith }
