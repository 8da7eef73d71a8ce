use Rattle.std.proofs.Common.{refl, sym, ◌∙◌}
use Rattle.std.specs.Prelude.{map}
use Rattle.std.proofs.lemmas.Map.Keys.{non_decreasing_from_sorted, sorted_from_strictly_increasing}
use Rattle.inverted.specs.Makers.{number_of}
use Rattle.inverted.proofs.PairNumbers.{has_index, lists_are, numbers_rise, numbers_within}
use Rattle.inverted.proofs.Windows.{lists_ascend}
use Rattle.inverted.proofs.inverted_index.InvertedIndex.from_known.Goals as goal

pub from_slice-requires : goal.from_slice-requires
from_slice-requires g c =
    rw (c.as_slice.ensures.value, c.in_ok-numbers.ensures)
    (non_decreasing_from_sorted _ (sorted_from_strictly_increasing _ (numbers_rise c.args.terms c.args.universe (g.P.Pairs.left c.args.pairs) (has_index c.args.terms c.args.universe (g.P.Pairs.left c.args.pairs) (sym c.refusal.ensures ∙ c.in_default.is)))))

pub invariant_of-result : goal.invariant_of-result
invariant_of-result g c =
    let has = has_index c.args.terms c.args.universe (g.P.Pairs.left c.args.pairs) (sym c.refusal.ensures ∙ c.in_default.is) in
    rw (c.in_ok-numbers-2.ensures, c.as_slice.ensures.value, c.in_ok-numbers.ensures)
    (record {
      ascending = numbers_rise c.args.terms c.args.universe (g.P.Pairs.left c.args.pairs) has;
      within = numbers_within c.args.terms c.args.universe (g.P.Pairs.left c.args.pairs) has;
      fits = has.fits;
      terms_fit = c.ranges.terms.fits;
      universe_fits = c.ranges.universe.fits;
    })

pub returns-clause-made : goal.returns-clause-made
returns-clause-made g c =
    let has = has_index c.args.terms c.args.universe (g.P.Pairs.left c.args.pairs) (sym c.refusal.ensures ∙ c.in_default.is) in
    rw (c.in_ok-numbers-2.ensures, c.as_slice.ensures.value, c.in_ok-numbers.ensures, lists_are (g.P.Pairs.left c.args.pairs) c.args.terms c.args.universe has.in_range) refl

pub returns-clause-ascending : goal.returns-clause-ascending
returns-clause-ascending g c =
    let has = has_index c.args.terms c.args.universe (g.P.Pairs.left c.args.pairs) (sym c.refusal.ensures ∙ c.in_default.is) in
    rw (c.in_ok-numbers-2.ensures, c.as_slice.ensures.value, c.in_ok-numbers.ensures)
    (lists_ascend (map (number_of c.args.universe) (g.P.Pairs.left c.args.pairs)) c.args.universe c.args.terms (numbers_rise c.args.terms c.args.universe (g.P.Pairs.left c.args.pairs) has))
