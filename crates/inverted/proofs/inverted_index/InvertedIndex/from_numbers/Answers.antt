use Rattle.std.proofs.Common.{refl, sym, ◌∙◌}
use Rattle.inverted.proofs.NumberLists.{index_from, is_of_numbers, lists_of_pairs}
use Rattle.inverted.proofs.inverted_index.InvertedIndex.from_numbers.Goals as goal

pub invariant_of-result : goal.invariant_of-result
invariant_of-result g c = index_from c.args.numbers c.args.universe c.args.terms c.ranges.universe.fits c.ranges.terms.fits (sym c.refusal_of_numbers.ensures ∙ c.in_default.is)

pub returns-clause-made : goal.returns-clause-made
returns-clause-made g c =
    let index = index_from c.args.numbers c.args.universe c.args.terms c.ranges.universe.fits c.ranges.terms.fits (sym c.refusal_of_numbers.ensures ∙ c.in_default.is) in
    rw (lists_of_pairs c.args.numbers c.args.universe c.args.terms index) refl

pub returns-clause-index : goal.returns-clause-index
returns-clause-index g c = is_of_numbers c.args.numbers c.args.universe c.args.terms (index_from c.args.numbers c.args.universe c.args.terms c.ranges.universe.fits c.ranges.terms.fits (sym c.refusal_of_numbers.ensures ∙ c.in_default.is))
