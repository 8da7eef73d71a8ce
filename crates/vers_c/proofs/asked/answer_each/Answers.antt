use Rattle.vers_c.proofs.Names.{arith, slice_set, map_over_more, value_or, asked, answered_row}
use Rattle.std.proofs.Common.{◌∙◌, ap}
use Rattle.catalogue.specs.Structures.{answer}
use Rattle.vers_c.proofs.asked.answer_each.Goals as goal

pub loop-i-preserved : goal.loop-i-preserved
loop-i-preserved g c =
    let answers = answer (g.S.Queryable.content c.args.structure.now) c.args.query in
    ap (λ row. slice_set c.loop-i.rows c.loop-i.i row)
    (c.with_answer.ensures ∙ ap (g.R.Row.with_answer c.index-rows-i.result) (c.value_or.ensures ∙ ap (value_or c.args.other) (c.answer-answer.ensures ∙ ap (asked answers) c.ask-ask.ensures)))
    ∙ map_over_more (answered_row g.R.Row.ask g.R.Row.with_answer answers c.args.other c.args.b c.args.c) c.args.rows.now c.loop-i.rows c.loop-i.i c.index-rows-i.result (omega arith) c.loop-i.invariant c.index-rows-i.is
