use Rattle.vers_rmq.proofs.Names.{◌-◌, IsLeastItem, AddsAtMost, only_items}
use Rattle.vers_rmq.proofs.rmq.least.scan.Given as goal

abbrev pub invariant-loop-k : goal.invariant-loop-k
invariant-loop-k g l = record {
  best : IsLeastItem l.items l.i (l.k - 1) l.least;
  adds : AddsAtMost l.fn.tally l.tally (only_items (l.k - l.i));
}
