use Rattle.std.proofs.Common.{sym, arith}
use Rattle.inverted.proofs.Windows.{list_is, no_list, none_below, rank_any}
use Rattle.inverted.proofs.inverted_index.InvertedIndex.rank_counted.Goals as goal

pub returns-then-t-self-clause-value : goal.returns-then-t-self-clause-value
returns-then-t-self-clause-value g c = rw (← c.self.view_is, no_list c.self.inside.numbers c.self.inside.universe c.self.inside.terms c.args.t c.if-t-self.true) (sym (none_below c.args.d))

pub overflow_sub-result : goal.overflow_sub-result
overflow_sub-result g c = omega (arith, c.rank_counted-end.ensures.value, c.rank_counted.ensures.value, rank_any c.self.inside.numbers c.self.inside.universe c.args.t c.args.d c.min.result c.min.ensures)

pub returns-clause-value : goal.returns-clause-value
returns-clause-value g c = rw (← c.self.view_is, list_is c.self.inside.numbers c.self.inside.universe c.self.inside.terms c.args.t c.if-t-self.false) (omega (arith, c.rank_counted-end.ensures.value, c.rank_counted.ensures.value, rank_any c.self.inside.numbers c.self.inside.universe c.args.t c.args.d c.min.result c.min.ensures))
