use Rattle.std.proofs.Common.{[], sym, ◌∙◌, arith}
use Rattle.std.proofs.lemmas.Option.{slice_get_past}
use Rattle.inverted.proofs.Windows.{get_is, get_past, list_is, no_list}
use Rattle.inverted.proofs.inverted_index.InvertedIndex.get_counted.Goals as goal

pub returns-then-t-self-clause-value : goal.returns-then-t-self-clause-value
returns-then-t-self-clause-value g c = rw (← c.self.view_is, no_list c.self.inside.numbers c.self.inside.universe c.self.inside.terms c.args.t c.if-t-self.true) (sym (slice_get_past [] c.args.i (omega arith)))

pub returns-then-i-len-clause-value : goal.returns-then-i-len-clause-value
returns-then-i-len-clause-value g c = rw (← c.self.view_is, list_is c.self.inside.numbers c.self.inside.universe c.self.inside.terms c.args.t c.if-t-self.false) (get_past c.self.inside.numbers c.self.inside.universe c.args.t c.args.i c.len.result c.len.ensures.ascending c.len.ensures.value (omega (arith, c.if-i-len.true, c.rank_counted-first.ensures.value)))

pub returns-clause-value : goal.returns-clause-value
returns-clause-value g c = rw (← c.self.view_is, list_is c.self.inside.numbers c.self.inside.universe c.self.inside.terms c.args.t c.if-t-self.false) (rw (c.get_counted.ensures.value, c.rank_counted-first.ensures.value) at c.document.ensures ∙ get_is c.self.inside.numbers c.self.inside.universe c.args.t c.args.i c.get_counted.ensures.ascending)
