use Rattle.inverted.proofs.Windows.{takes_first}
use Rattle.inverted.proofs.documents.Documents.next_counted.Goals as goal

pub returns-clause-steps : goal.returns-clause-steps
returns-clause-steps g c =
    rw (← c.self.view_is, c.document.ensures)
    (takes_first c.self.inside.universe c.self.inside.term c.self.inside.numbers.left c.next_counted-number.result c.next_counted-number.new.self.left c.self.invariant c.next_counted-number.ensures.steps)
