use Rattle.wavelet_tree.proofs.Names.{◌-◌}
use Rattle.wavelet_tree.proofs.grow.+need_of.Given as goal

abbrev pub decreases-need_of : goal.decreases-need_of
decreases-need_of l = l.end - l.low
