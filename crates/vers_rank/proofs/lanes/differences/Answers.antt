use Rattle.std.proofs.Common.{arith}
use Rattle.vers_rank.proofs.BlockLanes.{minus, splat_lane, ones_lane}
use Rattle.vers_rank.proofs.lanes.differences.Goals as goal

pub returns-then-bit-clause-up_to : goal.returns-then-bit-clause-up_to
returns-then-bit-clause-up_to c = rw c.if-bit.true (λ j h low. omega (arith, ones_lane c.args.r c.args.zeros j c.requires.long h, c.requires.within j h, low, c.requires.small))

pub returns-then-bit-clause-past : goal.returns-then-bit-clause-past
returns-then-bit-clause-past c = rw c.if-bit.true (λ j h high. omega (arith, ones_lane c.args.r c.args.zeros j c.requires.long h, c.requires.within j h, high, c.requires.small))

pub returns-clause-up_to : goal.returns-clause-up_to
returns-clause-up_to c = rw c.if-bit.false (λ j h low. omega (arith, splat_lane minus c.args.r c.args.zeros j c.requires.long h, c.requires.within j h, low, c.requires.small))

pub returns-clause-past : goal.returns-clause-past
returns-clause-past c = rw c.if-bit.false (λ j h high. omega (arith, splat_lane minus c.args.r c.args.zeros j c.requires.long h, c.requires.within j h, high, c.requires.small))
