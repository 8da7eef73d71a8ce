use Rattle.std.proofs.Common.{arith, rules}
use Rattle.vers_rank.proofs.Equal.{same_positions}
use Rattle.vers_rank.proofs.Reading.{no_reading}
use Rattle.vers_rank.proofs.fast_rs_vec.RsVec.has_positions_of.Goals as goal

pub loop-r-init : goal.loop-r-init
loop-r-init g c = record {
  here = rw c.new-here.ensures (no_reading _ _);
  there = rw c.new-there.ensures (no_reading _ _);
  same = λ k h. absurd (omega arith);
}

pub returns : goal.returns
returns g c = ((λ _. same_positions c.args.bit c.args.self.now c.args.other.now (omega arith) (omega arith) (λ r few. c.loop-r.invariant.same r (omega arith))), (λ _. search rules))
