use Rattle.inverted.specs.Lists.{list_of}
use Rattle.inverted.proofs.Steps.{none_in_none, none_past, step_is, step_passes, steps_rise}
use Rattle.inverted.proofs.Windows.{list_is, no_list, term_fits}
use Rattle.inverted.proofs.inverted_index.InvertedIndex.step_counted.Goals as goal

pub returns-then-t-self-clause-value : goal.returns-then-t-self-clause-value
returns-then-t-self-clause-value g c = rw (← c.self.view_is, no_list c.self.inside.numbers c.self.inside.universe c.self.inside.terms c.args.t c.if-t-self.true) (none_in_none c.args.at)

pub returns-then-t-self-clause-rises : goal.returns-then-t-self-clause-rises
returns-then-t-self-clause-rises g c = steps_rise (list_of c.args.self.now c.args.t)

pub returns-then-at-self-clause-value : goal.returns-then-at-self-clause-value
returns-then-at-self-clause-value g c =
    rw (← c.self.view_is, list_is c.self.inside.numbers c.self.inside.universe c.self.inside.terms c.args.t c.if-t-self.false)
    (none_past c.self.inside.numbers c.self.inside.universe c.args.t c.args.at c.if-at-self.true)

pub returns-then-at-self-clause-rises : goal.returns-then-at-self-clause-rises
returns-then-at-self-clause-rises g c = steps_rise (list_of c.args.self.now c.args.t)

pub returns-clause-value : goal.returns-clause-value
returns-clause-value g c =
    let cursor_of = rw (← c.self.view_is) at c.requires in
    rw (← c.self.view_is, c.step_in.ensures, list_is c.self.inside.numbers c.self.inside.universe c.self.inside.terms c.args.t c.if-t-self.false)
    (step_is c.args.cursor.now c.self.inside.numbers c.self.inside.universe c.args.t c.args.at c.seek_counted-step.result (term_fits c.self.inside.terms c.self.inside.universe c.args.t c.if-t-self.false c.self.invariant.fits) cursor_of c.seek_counted-step.ensures.value)

pub returns-clause-passes : goal.returns-clause-passes
returns-clause-passes g c =
    let cursor_of = rw (← c.self.view_is) at c.requires in
    rw (← c.self.view_is, c.step_in.ensures, list_is c.self.inside.numbers c.self.inside.universe c.self.inside.terms c.args.t c.if-t-self.false)
    (step_passes c.args.cursor.now c.self.inside.numbers c.self.inside.universe c.args.t c.args.at c.seek_counted-step.result c.if-at-self.false cursor_of c.seek_counted-step.ensures.value c.seek_counted-step.ensures.passes)

pub returns-clause-rises : goal.returns-clause-rises
returns-clause-rises g c = steps_rise (list_of c.args.self.now c.args.t)
