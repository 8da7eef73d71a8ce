use Rattle.vers_c.proofs.Names.{map, take, answered_row}
use Rattle.std.proofs.Common.{◌≡◌, ◌++◌, drop}
use Rattle.catalogue.specs.Structures.{answer}
use Rattle.vers_c.proofs.asked.answer_each.Given as goal

abbrev pub invariant-loop-i : goal.invariant-loop-i
invariant-loop-i g l = l.rows ≡ map (answered_row g.R.Row.ask g.R.Row.with_answer (answer (g.S.Queryable.content l.structure) l.query) l.other l.b l.c) (take l.i l.fn.rows) ++ drop l.i l.fn.rows
