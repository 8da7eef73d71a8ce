use Rattle.std.proofs.Common.{sym, ◌∙◌}
use Rattle.vers_sorted.proofs.PublicLaws.{element_none}
use Rattle.inverted.proofs.Windows.{list_is, element_is, element_past, no_list}
use Rattle.inverted.proofs.inverted_index.InvertedIndex.contains_counted.Goals as goal

pub returns-then-t-self-clause-value : goal.returns-then-t-self-clause-value
returns-then-t-self-clause-value g c = rw (← c.self.view_is, no_list c.self.inside.numbers c.self.inside.universe c.self.inside.terms c.args.t c.if-t-self.true) (sym (element_none c.args.d))

pub returns-then-d-self-clause-value : goal.returns-then-d-self-clause-value
returns-then-d-self-clause-value g c = rw (← c.self.view_is, list_is c.self.inside.numbers c.self.inside.universe c.self.inside.terms c.args.t c.if-t-self.false) (sym (element_past c.self.inside.numbers c.self.inside.universe c.args.t c.args.d c.if-d-self.true))

pub returns-clause-value : goal.returns-clause-value
returns-clause-value g c = rw (← c.self.view_is, list_is c.self.inside.numbers c.self.inside.universe c.self.inside.terms c.args.t c.if-t-self.false) (c.has_counted.ensures.value ∙ element_is c.self.inside.numbers c.self.inside.universe c.args.t c.args.d c.if-d-self.false)
