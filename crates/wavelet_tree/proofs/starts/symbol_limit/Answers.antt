use Rattle.wavelet_tree.proofs.Names.{arith, one_shl}
use Rattle.wavelet_tree.proofs.starts.symbol_limit.Goals as goal

pub returns : goal.returns
returns c = one_shl c.args.width 64 (omega (arith, c.requires))
