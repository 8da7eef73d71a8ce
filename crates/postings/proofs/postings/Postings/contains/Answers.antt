use Rattle.postings.proofs.postings.Postings.contains.Goals as goal

pub returns : goal.returns
returns g c = rw (← c.self.view_is) c.has.ensures.value
