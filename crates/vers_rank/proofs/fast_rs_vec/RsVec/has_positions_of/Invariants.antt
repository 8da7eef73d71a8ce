use Rattle.vers_rank.proofs.Names.{◌≡◌, ℕ, ◌<◌, select, IsReading}
use Rattle.vers_rank.proofs.fast_rs_vec.RsVec.has_positions_of.Given as goal

abbrev pub invariant-loop-r : goal.invariant-loop-r
invariant-loop-r g l =
    record {
      here : IsReading l.bit l.self l.here;
      there : IsReading l.bit l.other l.there;
      same : (k : ℕ) → k < l.r → select l.bit l.self k ≡ select l.bit l.other k;
    }
