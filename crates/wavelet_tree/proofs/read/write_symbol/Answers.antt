use Rattle.wavelet_tree.proofs.Names.{arith}
use Rattle.wavelet_tree.proofs.Reading.{all_same}
use Rattle.wavelet_tree.proofs.read.write_symbol.Goals as goal

pub returns : goal.returns
returns g c = all_same g.T.Integer.value c.args.symbol c.loop-item.items _ (omega arith) (λ k d inside. c.loop-item.invariant k d (omega (arith, inside)))
