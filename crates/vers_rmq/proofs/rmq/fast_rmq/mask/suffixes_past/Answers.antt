use Rattle.vers_rmq.proofs.Masks.{suffix_skip}
use Rattle.vers_rmq.proofs.rmq.fast_rmq.mask.suffixes_past.Goals as goal

pub returns-else-items-least : goal.returns-else-items-least
returns-else-items-least c = λ end u.
    suffix_skip c.args.items.now c.args.start c.args.from c.args.to end c.args.done.mask c.args.done.least c.args.least c.requires.base c.requires.some u c.requires.least c.if-items-least.false
