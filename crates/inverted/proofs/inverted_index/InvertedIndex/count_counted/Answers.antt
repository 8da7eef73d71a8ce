use Rattle.std.proofs.Common.{refl, arith}
use Rattle.inverted.proofs.Windows.{length_is, list_is, no_list}
use Rattle.inverted.proofs.inverted_index.InvertedIndex.count_counted.Goals as goal

pub returns-then-t-self-clause-value : goal.returns-then-t-self-clause-value
returns-then-t-self-clause-value g c = rw (← c.self.view_is, no_list c.self.inside.numbers c.self.inside.universe c.self.inside.terms c.args.t c.if-t-self.true) refl

pub overflow_sub-result : goal.overflow_sub-result
overflow_sub-result g c = omega (arith, c.rank_counted-end.ensures.value, c.rank_counted.ensures.value, length_is c.self.inside.numbers c.self.inside.universe c.args.t)

pub returns-clause-value : goal.returns-clause-value
returns-clause-value g c = rw (← c.self.view_is, list_is c.self.inside.numbers c.self.inside.universe c.self.inside.terms c.args.t c.if-t-self.false) (omega (arith, c.rank_counted-end.ensures.value, c.rank_counted.ensures.value, length_is c.self.inside.numbers c.self.inside.universe c.args.t))
