use Rattle.vers_c.proofs.Names.{map, take, value_or}
use Rattle.std.proofs.Common.{◌≡◌, ◌++◌, drop}
use Rattle.catalogue.specs.declared.answer.Answer.{Answer}
use Rattle.vers_c.proofs.batch.store_each.Given as goal

abbrev pub invariant-loop-i : goal.invariant-loop-i
invariant-loop-i g l = (answer : g.row.R.Denot → Answer) → map (g.B.Batch.says l.batch) l.queries ≡ map answer l.fn.rows
    → l.rows ≡ map (λ row. g.R.Row.with_answer row (value_or l.other (answer row))) (take l.i l.fn.rows) ++ drop l.i l.fn.rows
