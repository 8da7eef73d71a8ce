use Rattle.vers_bits.specs.Equality.{same_bits-Decides}
use Rattle.vers_rank.proofs.fast_rs_vec.RsVec.full_equals.Goals as goal

pub returns : goal.returns
returns g c = rw c.eq.ensures (same_bits-Decides c.args.self.now c.args.other.now)
