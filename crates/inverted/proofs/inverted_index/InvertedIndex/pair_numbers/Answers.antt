use Rattle.inverted.proofs.NumberLists.{is_of_numbers}
use Rattle.inverted.proofs.inverted_index.InvertedIndex.pair_numbers.Goals as goal

pub returns-clause-index : goal.returns-clause-index
returns-clause-index g c =
    rw (← c.self.view_is) (is_of_numbers c.self.inside.numbers c.self.inside.universe c.self.inside.terms c.self.invariant)
