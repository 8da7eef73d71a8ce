use Rattle.vers_trees.proofs.Names.{AreFirstBlocks}
use Rattle.vers_trees.proofs.trees.bp.min_max.build.push_blocks.Given as goal

abbrev pub invariant-loop-block : goal.invariant-loop-block
invariant-loop-block g l = AreFirstBlocks l.bits l.size l.first l.block l.nodes.items
