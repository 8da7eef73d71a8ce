use Rattle.vers_rank.proofs.Reading.{no_reading}
use Rattle.vers_rank.proofs.ReadingBack.{no_reading_back}
use Rattle.vers_rank.proofs.fast_rs_vec.select_iter.Positions.new.Goals as goal

pub invariant_of-result : goal.invariant_of-result
invariant_of-result g c = rw c.new-nothing.ensures (no_reading _ _, no_reading_back _ _)
