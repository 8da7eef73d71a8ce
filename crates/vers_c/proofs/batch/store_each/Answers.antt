use Rattle.vers_c.proofs.Names.{arith, slice_set, value_or}
use Rattle.std.proofs.Common.{◌∙◌, ap}
use Rattle.vers_c.proofs.Batches.{stored_more}
use Rattle.vers_c.proofs.batch.store_each.Goals as goal

pub loop-i-preserved : goal.loop-i-preserved
loop-i-preserved g c = λ answer same.
    ap (λ row. slice_set c.loop-i.rows c.loop-i.i row)
    (c.with_answer.ensures ∙ ap (g.R.Row.with_answer c.index-rows-i.result) (c.value_or.ensures ∙ ap (value_or c.args.other) c.answer.ensures))
    ∙ stored_more (g.B.Batch.says c.args.batch) answer (λ row said. g.R.Row.with_answer row (value_or c.args.other said)) c.args.queries.now c.args.rows.now c.loop-i.rows c.loop-i.i c.index-queries-i.result c.index-rows-i.result
    (omega arith) (omega arith) c.index-queries-i.is c.index-rows-i.is same (c.loop-i.invariant answer same)
