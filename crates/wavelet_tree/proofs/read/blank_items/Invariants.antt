use Rattle.wavelet_tree.proofs.Names.{◌≡◌, length}
use Rattle.wavelet_tree.proofs.read.blank_items.Given as goal

abbrev pub invariant-loop : goal.invariant-loop
invariant-loop g l = length l.items.items ≡ l.counter
