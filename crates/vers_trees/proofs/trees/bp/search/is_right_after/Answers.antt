use Rattle.vers_trees.proofs.Names.{arith}
use Rattle.vers_trees.proofs.searches.Beside.{right_after, after_some}
use Rattle.vers_trees.proofs.trees.bp.search.is_right_after.Goals as goal

pub returns-then-next-len-clause-value : goal.returns-then-next-len-clause-value
returns-then-next-len-clause-value g c = (λ t. absurd (cc), λ found. absurd (omega (arith, (after_some c.args.bits.now c.args.i c.args.r _ found).inside)))

pub returns-clause-value : goal.returns-clause-value
returns-clause-value g c =
    right_after c.args.bits.now c.args.i c.args.r c.step.result _ c.ranges.r (omega arith) c.is_one_counted.ensures.value c.step.ensures
