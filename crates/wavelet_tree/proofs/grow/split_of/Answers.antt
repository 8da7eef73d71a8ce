use Rattle.wavelet_tree.proofs.Splits.{split_before, split_there}
use Rattle.wavelet_tree.proofs.grow.split_of.Goals as goal

pub returns-then-elements-starts : goal.returns-then-elements-starts
returns-then-elements-starts c = split_before c.args.starts.now c.args.low c.args.end c.half_of-symbol.result c.half_of-symbol.ensures.value c.if-elements-starts.true

pub returns-else-elements-starts : goal.returns-else-elements-starts
returns-else-elements-starts c = split_there c.args.starts.now c.args.low c.args.end c.half_of-symbol.result c.half_of-symbol.ensures.value c.if-elements-starts.false
