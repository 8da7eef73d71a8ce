use Rattle.vers_sorted.proofs.Names.{◌+◌, below}
use Rattle.vers_sorted.proofs.Passes.{none_passed}
use Rattle.vers_sorted.proofs.elias_fano.successors.Successors.new.Goals as goal

pub invariant_of-result : goal.invariant_of-result
invariant_of-result g c = record {
  next = c.successor_outside.ensures;
  past = rw c.none.ensures (none_passed c.args.list.now (below c.args.list.now 0 + 1));
}
