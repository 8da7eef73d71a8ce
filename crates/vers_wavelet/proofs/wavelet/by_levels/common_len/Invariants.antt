use Rattle.vers_wavelet.proofs.Names.{◌≡◌, ◌<◌, ℕ, Bool, List, length, get_or}
use Rattle.vers_wavelet.proofs.wavelet.by_levels.common_len.Given as goal

abbrev pub invariant-loop-k : goal.invariant-loop-k
invariant-loop-k g l = (i : ℕ) (d : List Bool) → i < l.k → length (get_or l.levels i d) ≡ l.len
