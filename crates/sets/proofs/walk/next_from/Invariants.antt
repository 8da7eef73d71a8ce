use Rattle.std.proofs.Common.{◌≡◌}
use Rattle.sets.specs.Steps.{steps_taken}
use Rattle.sets.proofs.Gathered.{HasTaken, IsOn, left_of}
use Rattle.sets.proofs.walk.next_from.Given as goal

abbrev pub invariant-loop-from : goal.invariant-loop-from
invariant-loop-from g l = record {
  same : g.S.Seek.set l.source ≡ g.S.Seek.set l.fn.source;
  on : IsOn (g.S.Seek.set l.fn.source).has l.fn.start l.from;
  taken : HasTaken (g.S.Seek.set l.fn.source) (steps_taken (g.S.Seek.set l.fn.source) l.fn.start) l.from l.fn.tally l.tally;
}

abbrev pub decreases-loop-from : goal.decreases-loop-from
decreases-loop-from g l = left_of l.from
