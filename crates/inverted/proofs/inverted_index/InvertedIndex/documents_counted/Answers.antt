use Rattle.vers_sorted.specs.Layout.{element_reads}
use Rattle.inverted.proofs.Walks.{same_walk}
use Rattle.inverted.proofs.Windows.{list_is, no_list, skipped_documents, skipped_within, term_fits, without_universe}
use Rattle.inverted.proofs.inverted_index.InvertedIndex.documents_counted.Goals as goal

pub returns-then-t-self-clause-value : goal.returns-then-t-self-clause-value
returns-then-t-self-clause-value g c =
    rw (← c.self.view_is, c.iter.ensures.value, no_list c.self.inside.numbers c.self.inside.universe c.self.inside.terms c.args.t c.if-t-self.true)
    (same_walk (element_reads c.self.inside.numbers) _ _ (without_universe c.self.inside.numbers))

pub invariant_of-result-2 : goal.invariant_of-result-2
invariant_of-result-2 g c =
    rw (c.elements_from.ensures.left, c.rank_counted-first.ensures.value)
    (skipped_within c.self.inside.universe c.args.t c.self.inside.numbers c.rank_counted-first.ensures.ascending (term_fits c.self.inside.terms c.self.inside.universe c.args.t c.if-t-self.false c.self.invariant.fits))

pub returns-clause-value : goal.returns-clause-value
returns-clause-value g c =
    rw (← c.self.view_is, c.elements_from.ensures.step, c.elements_from.ensures.left, c.rank_counted-first.ensures.value, list_is c.self.inside.numbers c.self.inside.universe c.self.inside.terms c.args.t c.if-t-self.false)
    (same_walk (element_reads c.self.inside.numbers) _ _ (skipped_documents c.self.inside.universe c.args.t c.self.inside.numbers c.rank_counted-first.ensures.ascending))
