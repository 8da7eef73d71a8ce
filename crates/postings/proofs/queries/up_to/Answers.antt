use Rattle.postings.proofs.Names.{◌+◌, ◌<◌, ◌∙◌, inl, inr, arith, cases_lt}
use Rattle.postings.proofs.Positions.{below_all}
use Rattle.postings.proofs.queries.up_to.Goals as goal

pub returns-in-None-clause-value : goal.returns-in-None-clause-value
returns-in-None-clause-value g c =
    let over : 18446744073709551615 < c.args.to + 1 = elim (cases_lt (c.args.to + 1) 18446744073709551616) [ inl fits ↦ absurd (c.in-None.ensures fits) | inr more ↦ omega (arith, more) ] in
    c.len.ensures.value ∙ below_all c.args.documents.now (c.args.to + 1) c.len.ensures.ascending (λ i d inside. omega (arith, c.requires i d inside, over))
