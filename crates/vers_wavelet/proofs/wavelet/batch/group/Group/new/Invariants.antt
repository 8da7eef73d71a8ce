use Rattle.vers_wavelet.proofs.Names.{◌≡◌, ℕ, ◌+◌, ◌<◌, get_or, HasNumber, no_query}
use Rattle.vers_wavelet.proofs.wavelet.batch.group.Group.new.Given as goal

abbrev pub invariant-loop-j : goal.invariant-loop-j
invariant-loop-j g l = record {
  all : l.group.zeros.count + l.group.ones.count ≡ l.j;
  numbers : (h : ℕ) → h < l.j → HasNumber l.level l.i (get_or l.queries (l.from + h) no_query) h l.group;
}
