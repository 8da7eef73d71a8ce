use Rattle.std.proofs.Common.{arith}
use Rattle.vers_rank.proofs.BlockLanes.{last_block}
use Rattle.vers_rank.proofs.lanes.last_up_to.Goals as goal

pub overflow_sub-block : goal.overflow_sub-block
overflow_sub-block c =
    let found = last_block c.args.zeros c.differences-below.result c.args.bit c.args.r c.differences-below.ensures.long c.requires.small c.requires.within c.requires.rising c.differences-below.ensures.up_to c.differences-below.ensures.past in
    omega (arith, found.0, c.far_below-block.ensures)

pub returns : goal.returns
returns c =
    let found = last_block c.args.zeros c.differences-below.result c.args.bit c.args.r c.differences-below.ensures.long c.requires.small c.requires.within c.requires.rising c.differences-below.ensures.up_to c.differences-below.ensures.past in
    rw c.far_below-block.ensures (record { few = omega arith; rest = found.1; last = found.2 })
