use Rattle.vers_rank.proofs.OffsetLanes.{entry_small}
use Rattle.vers_rank.proofs.offsets.offsets_in_byte.Goals as goal

pub returns-clause-small : goal.returns-clause-small
returns-clause-small c = rw c.lanes_from.ensures (entry_small c.args.byte c.requires)
