use Rattle.wavelet_tree.proofs.Names.{arith, refl}
use Rattle.wavelet_tree.proofs.Beginning.{occurring_up}
use Rattle.wavelet_tree.proofs.tree.WaveletTree.sorted_range_counted.Goals as goal

pub returns-clause-answered : goal.returns-clause-answered
returns-clause-answered g c = (
  λ some. omega (arith, occurring_up c.args.self.now.items c.args.symbol c.args.range.start c.args.range.end c.requires.order, c.descend-found.ensures.start, c.descend-found.ensures.end, c.if-found.false),
  λ less. refl,
)
