use Rattle.wavelet_tree.proofs.Names.{◌-◌}
use Rattle.wavelet_tree.proofs.rebuild.+rebuild.Given as goal

abbrev pub decreases-rebuild : goal.decreases-rebuild
decreases-rebuild g l = l.end - l.low
