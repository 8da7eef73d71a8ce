use Rattle.vers_trees.proofs.Names.{◌≡◌, ◌≤◌, drop, octal}
use Rattle.vers_trees.proofs.trees.bp.bytes.number_of.Given as goal

abbrev pub invariant-loop-x : goal.invariant-loop-x
invariant-loop-x l = record {
  within : l.x ≤ 17;
  value : l.number ≡ octal (drop l.x l.digits);
}

abbrev pub decreases-loop-x : goal.decreases-loop-x
decreases-loop-x l = l.x
