use Rattle.vers_rmq.proofs.Names.{arith}
use Rattle.vers_rmq.proofs.Blocks.{two_parts}
use Rattle.vers_rmq.proofs.Minima.{item_ends}
use Rattle.vers_rmq.proofs.rmq.fast_rmq.FastRmq.least_over_blocks.Goals as goal

pub returns-then-i-j-clause-value : goal.returns-then-i-j-clause-value
returns-then-i-j-clause-value g c = grind (arith, two_parts)

pub returns-clause-value : goal.returns-clause-value
returns-clause-value g c = (c.least_up_to.ensures.value c.args.i (grind (arith, item_ends))).position
