use Rattle.vers_rmq.proofs.Blocks.{part_prefix_some}
use Rattle.vers_rmq.proofs.rmq.fast_rmq.FastRmq.part_prefix_position.Goals as goal

pub last_set-requires-clause-first : goal.last_set-requires-clause-first
last_set-requires-clause-first g c = part_prefix_some _ _ _ _ _ _ _ c.self.invariant c.self.view_is c.requires c.index.ensures
