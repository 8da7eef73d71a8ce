use Rattle.vers_trees.proofs.Names.{◌+◌, List, Bool, length, arith, w64, ap, ◌∙◌, to_z-of_z, excess}
use Rattle.vers_trees.proofs.searches.Beside.{few_ones, small_number, difference_is}
use Rattle.vers_trees.proofs.trees.bp.BpTree.excess_counted.Goals as goal

pub overflow_sub-zeros : goal.overflow_sub-zeros
overflow_sub-zeros g c = few_ones _ _ _ c.rank1_counted-ones.ensures.value

pub overflow_cast-result : goal.overflow_cast-result
overflow_cast-result g c = small_number _ (omega (arith, ap length c.self.view_is, few_ones _ _ _ c.rank1_counted-ones.ensures.value))

pub overflow_cast-result-2 : goal.overflow_cast-result-2
overflow_cast-result-2 g c = small_number _ (omega (arith, ap length c.self.view_is))

pub overflow_sub-result : goal.overflow_sub-result
overflow_sub-result g c = (difference_is _ _ _ c.self.invariant.short (omega (arith, ap length c.self.view_is)) c.rank1_counted-ones.ensures.value).0

pub returns-clause-value : goal.returns-clause-value
returns-clause-value g c =
    let d = difference_is _ (c.args.i + 1) _ c.self.invariant.short (omega (arith, ap length c.self.view_is)) c.rank1_counted-ones.ensures.value in
    to_z-of_z w64 _ d.0 ∙ d.1 ∙ ap (λ (l : List Bool). excess l (c.args.i + 1)) c.self.view_is
