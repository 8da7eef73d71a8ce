use Rattle.vers_rmq.proofs.Names.{◌≡◌, ◌+◌, ◌-◌, ◌*◌, ◌^◌, ◌<◌, length}
use Rattle.vers_rmq.specs.inside.Tables.{HoldsPositions}
use Rattle.vers_rmq.proofs.rmq.binary_rmq.table.positions.Given as goal

abbrev pub invariant-loop-i : goal.invariant-loop-i
invariant-loop-i g l = record {
  counted : length l.table.items ≡ length l.items * 0 + l.i;
  positions : HoldsPositions l.items l.table.items;
}

abbrev pub invariant-levels : goal.invariant-levels
invariant-levels g l = record {
  small : l.k < 33;
  width : 0 < length l.items → 2 ^ l.k < 2 * length l.items;
  counted : length l.table.items ≡ length l.items * (l.k + 1);
  positions : HoldsPositions l.items l.table.items;
}

abbrev pub decreases-levels : goal.decreases-levels
decreases-levels g l = 33 - l.k

abbrev pub invariant-loop-j : goal.invariant-loop-j
invariant-loop-j g l = record {
  counted : length l.table.items ≡ length l.items * (l.k + 1) + l.j;
  positions : HoldsPositions l.items l.table.items;
}
