use Rattle.vers_rmq.proofs.Blocks.{end_before}
use Rattle.vers_rmq.proofs.rmq.fast_rmq.FastRmq.least_from.Goals as goal

pub returns-clause-value : goal.returns-clause-value
returns-clause-value g c to found =
    end_before c.self.inside.items c.args.self.now c.args.i c.suffix_position.result to c.read_at.result c.args.after c.lesser_of.result
    c.self.view_is c.requires c.suffix_position.ensures.value c.read_at.ensures.at c.read_at.ensures.item c.lesser_of.ensures found
