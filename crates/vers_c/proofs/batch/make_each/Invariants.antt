use Rattle.vers_c.proofs.Names.{map, take, asked}
use Rattle.std.proofs.Common.{◌≡◌}
use Rattle.vers_c.proofs.batch.make_each.Given as goal

abbrev pub invariant-loop-i : goal.invariant-loop-i
invariant-loop-i g l = (structure : g.row.S.Denot) → map (g.B.Batch.wants l.batch structure) (take l.i l.queries)
    ≡ map (λ row. asked (g.B.Batch.answers l.batch structure) (g.R.Row.ask l.b l.c row)) (take l.i l.rows)
