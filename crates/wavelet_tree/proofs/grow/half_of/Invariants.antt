use Rattle.wavelet_tree.proofs.Names.{◌≡◌, ◌-◌, half_from}
use Rattle.wavelet_tree.proofs.grow.half_of.Given as goal

abbrev pub invariant-loop-symbol : goal.invariant-loop-symbol
invariant-loop-symbol l = half_from l.starts l.elements l.symbol (l.end - l.symbol) ≡ half_from l.starts l.elements l.low (l.end - l.low)
