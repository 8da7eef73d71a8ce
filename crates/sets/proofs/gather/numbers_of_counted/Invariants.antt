use Rattle.std.proofs.Common.{◌≡◌}
use Rattle.sets.proofs.Gathered.{HasTaken, IsSoFar, left_of}
use Rattle.sets.proofs.gather.numbers_of_counted.Given as goal

abbrev pub invariant-loop-from : goal.invariant-loop-from
invariant-loop-from g l = record {
  same : g.S.Seek.set l.source ≡ g.S.Seek.set l.fn.source;
  found : IsSoFar (g.S.Seek.set l.fn.source).has l.from l.found.items;
  taken : HasTaken (g.S.Seek.set l.fn.source) ((g.S.Seek.set l.fn.source).passed 0) l.from l.fn.tally l.tally;
}

abbrev pub decreases-loop-from : goal.decreases-loop-from
decreases-loop-from g l = left_of l.from
