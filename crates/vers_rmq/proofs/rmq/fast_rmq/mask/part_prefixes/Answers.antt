use Rattle.vers_rmq.proofs.Masks.{prefix_start}
use Rattle.vers_rmq.proofs.rmq.fast_rmq.mask.part_prefixes.Goals as goal

pub returns : goal.returns
returns c = c.more_prefixes.ensures c.args.from (prefix_start c.args.items.now c.args.start c.args.from c.one_at.result c.requires.base c.one_at.ensures)
