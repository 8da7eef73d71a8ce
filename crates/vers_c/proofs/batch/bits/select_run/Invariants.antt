use Rattle.vers_c.proofs.Names.{map, positions, select, take, ◌+◌}
use Rattle.std.proofs.Common.{◌≡◌, ◌++◌, drop, not, nat_eq, slice_index}
use Rattle.vers_c.proofs.batch.bits.select_run.Given as goal

abbrev pub invariant-loop-k : goal.invariant-loop-k
invariant-loop-k g l = record {
  left : drop l.skip l.positions.left ≡ drop (slice_index l.fn.numbers 0 + l.k) (positions (not (not (nat_eq g.row.ZERO 0))) l.bits);
  done : l.numbers ≡ map (select (not (not (nat_eq g.row.ZERO 0))) l.bits) (take l.k l.fn.numbers) ++ drop l.k l.fn.numbers;
}
