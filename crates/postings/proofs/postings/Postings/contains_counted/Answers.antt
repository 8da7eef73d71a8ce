use Rattle.postings.proofs.postings.Postings.contains_counted.Goals as goal

pub returns-clause-value : goal.returns-clause-value
returns-clause-value g c = rw (← c.self.view_is) c.has_counted.ensures.value
