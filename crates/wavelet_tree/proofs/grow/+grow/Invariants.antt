use Rattle.wavelet_tree.proofs.Names.{◌-◌}
use Rattle.wavelet_tree.proofs.grow.+grow.Given as goal

abbrev pub decreases-grow : goal.decreases-grow
decreases-grow g l = l.end - l.low
