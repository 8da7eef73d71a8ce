use Rattle.inverted.proofs.Windows.{listed_below}
use Rattle.inverted.proofs.inverted_index.InvertedIndex.cursor.Goals as goal

pub returns-clause-below : goal.returns-clause-below
returns-clause-below g c = rw (← c.self.view_is) (λ t d. listed_below c.self.inside.numbers c.self.inside.universe c.self.inside.terms t d)
