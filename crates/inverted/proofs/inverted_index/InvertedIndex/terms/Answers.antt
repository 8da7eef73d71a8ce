use Rattle.std.proofs.Common.{sym}
use Rattle.inverted.proofs.Windows.{lists_ascend, terms_are}
use Rattle.inverted.proofs.inverted_index.InvertedIndex.terms.Goals as goal

pub returns-clause-value : goal.returns-clause-value
returns-clause-value g c = rw (← c.self.view_is) (sym (terms_are c.self.inside.numbers c.self.inside.universe c.self.inside.terms))

pub returns-clause-ascending : goal.returns-clause-ascending
returns-clause-ascending g c = rw (← c.self.view_is) (lists_ascend c.self.inside.numbers c.self.inside.universe c.self.inside.terms c.self.invariant.ascending)
