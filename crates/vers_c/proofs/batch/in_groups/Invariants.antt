use Rattle.vers_c.proofs.Names.{◌-◌, ◌≤◌, map, take, answered_row}
use Rattle.std.proofs.Common.{◌≡◌, ◌++◌, drop}
use Rattle.vers_c.proofs.batch.in_groups.Given as goal

abbrev pub invariant-loop-from : goal.invariant-loop-from
invariant-loop-from g l = record {
  within : l.from ≤ l.len;
  answered : l.rows ≡ map (answered_row g.R.Row.ask g.R.Row.with_answer (g.B.Batch.answers l.batch l.structure) l.other l.b l.c) (take l.from l.fn.rows) ++ drop l.from l.fn.rows;
}

abbrev pub decreases-loop-from : goal.decreases-loop-from
decreases-loop-from g l = l.len - l.from
