use Rattle.vers_trees.proofs.Names.{w64, to_z-of_z}
use Rattle.vers_trees.proofs.trees.bp.BpTree.fwd_search_counted.Goals as goal

pub returns-clause-value : goal.returns-clause-value
returns-clause-value g c = rw (← c.searched.ensures.bits) (rw (to_z-of_z w64 c.args.r c.ranges.r) at c.forward.ensures.value)
