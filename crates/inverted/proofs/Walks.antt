-- Walks along documents.
use Rattle.std.proofs.Common.{◌≡◌, ℕ, List, ap}
use Rattle.vers_tally.specs.Ends.{Walking}
use Rattle.vers_tally.specs.Reads.{Reads}

abbrev walk_of : Reads → List ℕ → Walking ℕ
walk_of step left = record { left = left; step = step }

-- walks along equal documents are equal
pub same_walk : (step : Reads) (left other : List ℕ) → left ≡ other → walk_of step left ≡ walk_of step other
same_walk step left other same = ap (walk_of step) same
