use Rattle.vers_rmq.proofs.Found.{is_least_position}
use Rattle.vers_rmq.proofs.rmq.fast_rmq.FastRmq.range_min_counted.Goals as goal

pub returns-then-i-j-clause-value : goal.returns-then-i-j-clause-value
returns-then-i-j-clause-value g c = is_least_position _ _ _ _ c.least_in_part.ensures.value

pub returns-then-i-j-2-clause-value : goal.returns-then-i-j-2-clause-value
returns-then-i-j-2-clause-value g c = is_least_position _ _ _ _ c.least_in_block.ensures.value

pub returns-clause-value : goal.returns-clause-value
returns-clause-value g c = is_least_position _ _ _ _ c.least_over_blocks.ensures.value
