use Rattle.vers_trees.proofs.Names.{arith}
use Rattle.vers_trees.proofs.kin.Kin.{depth_by_ones}
use Rattle.vers_trees.proofs.trees.bp.BpTree.depth_counted.Goals as goal

pub overflow_sub-zeros : goal.overflow_sub-zeros
overflow_sub-zeros g c = omega (arith, depth_by_ones c.args.self.now c.requires.balanced c.args.node c.requires.node c.rank1_counted-ones.result (rw c.self.view_is at c.rank1_counted-ones.ensures.value))

pub overflow_sub-result : goal.overflow_sub-result
overflow_sub-result g c = omega (arith, depth_by_ones c.args.self.now c.requires.balanced c.args.node c.requires.node c.rank1_counted-ones.result (rw c.self.view_is at c.rank1_counted-ones.ensures.value))

pub returns-clause-value : goal.returns-clause-value
returns-clause-value g c = (depth_by_ones c.args.self.now c.requires.balanced c.args.node c.requires.node c.rank1_counted-ones.result (rw c.self.view_is at c.rank1_counted-ones.ensures.value)).2
