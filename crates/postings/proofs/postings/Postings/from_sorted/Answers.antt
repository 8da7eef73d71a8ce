use Rattle.postings.proofs.Names.{length, ap, ◌∙◌}
use Rattle.postings.proofs.Paired.{paired}
use Rattle.postings.proofs.postings.Postings.from_sorted.Goals as goal

pub invariant_of-result : goal.invariant_of-result
invariant_of-result g c =
    paired c.args.documents.now c.args.costs.items c.in_ok-documents.documents c.in_ok-documents.costs c.in_ok-documents.ensures.0 (c.in_ok-documents.ensures.1 ∙ c.in_ok-costs.ensures)
    c.in_ok-check.ensures.ascending (c.in_ok-check.ensures.paired ∙ ap length c.as_slice.ensures.value) c.type_inv.documents

pub returns-clause-paired : goal.returns-clause-paired
returns-clause-paired g c = invariant_of-result g c
