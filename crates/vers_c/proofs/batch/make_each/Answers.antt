use Rattle.vers_c.proofs.Names.{arith, asked}
use Rattle.std.proofs.Common.{◌∙◌, ap}
use Rattle.vers_c.proofs.Batches.{alike_more}
use Rattle.vers_c.proofs.batch.make_each.Goals as goal

pub loop-i-preserved : goal.loop-i-preserved
loop-i-preserved g c = λ structure.
    let answers = g.B.Batch.answers c.args.batch structure in
    alike_more (g.B.Batch.wants c.args.batch structure) (λ row. asked answers (g.R.Row.ask c.args.b c.args.c row)) c.loop-i.queries c.args.rows.now c.loop-i.i c.of.result c.index-rows-i.result
    (omega arith) (omega arith) c.index-rows-i.is (c.of.ensures structure ∙ ap (asked answers) c.ask.ensures) (c.loop-i.invariant structure)
