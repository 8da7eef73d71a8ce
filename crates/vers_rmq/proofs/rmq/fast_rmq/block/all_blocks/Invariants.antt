use Rattle.vers_rmq.proofs.Names.{AreBlocks}
use Rattle.vers_rmq.proofs.rmq.fast_rmq.block.all_blocks.Given as goal

abbrev pub invariant-loop-b : goal.invariant-loop-b
invariant-loop-b g l = AreBlocks l.items l.b l.blocks.minima.items l.blocks.positions.items l.blocks.masks.items
