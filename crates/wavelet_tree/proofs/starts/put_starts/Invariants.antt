use Rattle.wavelet_tree.proofs.Names.{◌≡◌, map, length, lesser, StartsUpTo}
use Rattle.wavelet_tree.proofs.starts.put_starts.Given as goal

abbrev pub invariant-loop-number : goal.invariant-loop-number
invariant-loop-number g l = record {
  starts : StartsUpTo (map g.T.Integer.value l.items) l.starts l.number;
  before : l.before ≡ lesser (map g.T.Integer.value l.items) l.number;
  long : length l.starts ≡ length l.initial.starts;
}
