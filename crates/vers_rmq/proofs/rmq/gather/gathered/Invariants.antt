use Rattle.vers_rmq.proofs.Names.{◌≡◌, ◌≤◌, length}
use Rattle.vers_rmq.proofs.rmq.gather.gathered.Given as goal

abbrev pub invariant-loop-item : goal.invariant-loop-item
invariant-loop-item g l = record {
  gathered : l.list.items ≡ l.yielded;
  within : length l.list.items ≤ l.most;
}
