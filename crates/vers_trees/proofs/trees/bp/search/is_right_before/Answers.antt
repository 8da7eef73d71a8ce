use Rattle.vers_trees.proofs.searches.Beside.{right_before}
use Rattle.vers_trees.proofs.trees.bp.search.is_right_before.Goals as goal

pub returns-clause-value : goal.returns-clause-value
returns-clause-value g c =
    right_before c.args.bits.now c.args.i c.args.r c.step.result _ c.ranges.r c.requires.some c.requires.inside c.is_one_counted.ensures.value c.step.ensures
