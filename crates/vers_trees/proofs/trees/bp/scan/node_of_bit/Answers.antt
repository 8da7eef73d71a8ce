use Rattle.vers_trees.proofs.Names.{◌+◌, refl, w64, to_z-of_z}
use Rattle.vers_trees.proofs.searches.Scans.{step_fits, bit_is, part_start}
use Rattle.vers_trees.proofs.trees.bp.scan.node_of_bit.Goals as goal

pub returns : goal.returns
returns c = λ l p h e. rw (to_z-of_z w64 c.step-sum.result (step_fits _ _ c.step-sum.ensures)) (part_start l p c.step-sum.result (bit_is l p (p + 1) _ _ refl h e c.step-sum.ensures))
