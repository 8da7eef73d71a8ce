use Rattle.wavelet_tree.proofs.Names.{◌≡◌, ℕ, ◌<◌, eqb, count_by, length, map, take, get_or}
use Rattle.wavelet_tree.proofs.starts.count_symbols.Given as goal

abbrev pub invariant-loop-position : goal.invariant-loop-position
invariant-loop-position g l = record {
  counted : (c : ℕ) → c < length l.counts → get_or l.counts c 0 ≡ count_by (λ s. eqb s c) (take l.position (map g.T.Integer.value l.items));
  long : length l.counts ≡ length l.initial.counts;
}
