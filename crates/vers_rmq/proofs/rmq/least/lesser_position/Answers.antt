use Rattle.vers_rmq.proofs.Minima.{chosen_position}
use Rattle.vers_rmq.proofs.rmq.least.lesser_position.Goals as goal

pub returns-clause-value : goal.returns-clause-value
returns-clause-value c = chosen_position c.args.items.now c.args.m c.args.n c.lesser_of.result c.lesser_of.ensures
