use Rattle.vers_sorted.proofs.Names.{ap, last_of}
use Rattle.vers_sorted.proofs.SparseBits.{from_start}
use Rattle.vers_sorted.proofs.sparse.last_start.Goals as goal

pub returns : goal.returns
returns g c = ap last_of (from_start c.args.bit c.args.bits.now)
