use Rattle.vers_rank.proofs.Names.{◌+◌, arith}
use Rattle.vers_rank.proofs.BlockLanes.{entry_within, held_counts, held_rising}
use Rattle.vers_rank.proofs.fast_rs_vec.RsVec.block_among.Goals as goal

pub last_up_to-requires-clause-within : goal.last_up_to-requires-clause-within
last_up_to-requires-clause-within g c =
    entry_within (rw c.self.view_is at c.self.invariant) c.args.s c.requires.within c.read_16-zeros.result c.read_16-zeros.ensures.value

pub last_up_to-requires-clause-rising : goal.last_up_to-requires-clause-rising
last_up_to-requires-clause-rising g c =
    held_rising (rw c.self.view_is at c.self.invariant) c.args.s c.requires.within c.read_16-zeros.result c.read_16-zeros.ensures.value c.args.bit

pub returns-clause-counted : goal.returns-clause-counted
returns-clause-counted g c =
    omega (arith, c.last_up_to.ensures.rest, held_counts (rw c.self.view_is at c.self.invariant) c.args.s c.requires.within c.read_16-zeros.result c.read_16-zeros.ensures.value c.args.bit c.last_up_to.result.block c.last_up_to.ensures.few)

pub returns-clause-to : goal.returns-clause-to
returns-clause-to g c h =
    grind (arith, c.last_up_to.ensures.last h, held_counts (rw c.self.view_is at c.self.invariant) c.args.s c.requires.within c.read_16-zeros.result c.read_16-zeros.ensures.value c.args.bit (c.last_up_to.result.block + 1) h)
