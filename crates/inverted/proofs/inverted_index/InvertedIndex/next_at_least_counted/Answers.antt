use Rattle.std.proofs.Common.{sym, ◌∙◌}
use Rattle.inverted.proofs.Windows.{documents_strict, list_is, next_is, next_past, no_list, no_next, nothing_ascends}
use Rattle.inverted.proofs.inverted_index.InvertedIndex.next_at_least_counted.Goals as goal

pub returns-then-t-self-clause-value : goal.returns-then-t-self-clause-value
returns-then-t-self-clause-value g c = rw (← c.self.view_is, no_list c.self.inside.numbers c.self.inside.universe c.self.inside.terms c.args.t c.if-t-self.true) (sym (no_next c.args.d))

pub returns-then-d-universe-clause-value : goal.returns-then-d-universe-clause-value
returns-then-d-universe-clause-value g c = rw (← c.self.view_is, list_is c.self.inside.numbers c.self.inside.universe c.self.inside.terms c.args.t c.if-t-self.false) (sym (next_past c.self.inside.numbers c.self.inside.universe c.args.t c.args.d c.if-d-universe.true))

pub returns-clause-value : goal.returns-clause-value
returns-clause-value g c = rw (← c.self.view_is, list_is c.self.inside.numbers c.self.inside.universe c.self.inside.terms c.args.t c.if-t-self.false) (rw c.successor_counted-number.ensures.value at c.document.ensures ∙ next_is c.self.inside.numbers c.self.inside.universe c.args.t c.args.d c.successor_counted-number.ensures.ascending c.if-d-universe.false)

pub returns-then-t-self-clause-ascending : goal.returns-then-t-self-clause-ascending
returns-then-t-self-clause-ascending g c = rw (← c.self.view_is, no_list c.self.inside.numbers c.self.inside.universe c.self.inside.terms c.args.t c.if-t-self.true) nothing_ascends

pub returns-then-d-universe-clause-ascending : goal.returns-then-d-universe-clause-ascending
returns-then-d-universe-clause-ascending g c =
    rw (← c.self.view_is, list_is c.self.inside.numbers c.self.inside.universe c.self.inside.terms c.args.t c.if-t-self.false) (documents_strict c.self.inside.numbers c.self.inside.universe c.args.t c.self.invariant.ascending)

pub returns-clause-ascending : goal.returns-clause-ascending
returns-clause-ascending g c = rw (← c.self.view_is, list_is c.self.inside.numbers c.self.inside.universe c.self.inside.terms c.args.t c.if-t-self.false) (documents_strict c.self.inside.numbers c.self.inside.universe c.args.t c.self.invariant.ascending)
