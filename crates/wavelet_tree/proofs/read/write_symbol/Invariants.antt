use Rattle.wavelet_tree.proofs.Names.{◌≡◌, ℕ, ◌<◌, get_or}
use Rattle.wavelet_tree.proofs.read.write_symbol.Given as goal

abbrev pub invariant-loop-item : goal.invariant-loop-item
invariant-loop-item g l = (k : ℕ) (d : g.row.T.Denot) → k < l.item-index → g.T.Integer.value (get_or l.items k d) ≡ l.symbol
