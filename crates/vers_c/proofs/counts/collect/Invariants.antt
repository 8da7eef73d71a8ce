use Rattle.std.proofs.Common.{◌≡◌, ℕ, [], ◌<◌, ◌∷◌, length, map, slice_index, slice_index_or}
use Rattle.vers_c.specs.Texts.{pattern_at}
use Rattle.vers_c.proofs.counts.collect.Given as goal

abbrev pub invariant-loop-k : goal.invariant-loop-k
invariant-loop-k l = record {
  long : length l.patterns ≡ length l.fn.patterns;
  from : l.from ≡ slice_index (l.start ∷ l.ends) l.k;
  done : (j : ℕ) → j < l.k → slice_index_or (map (λ p. p.now) l.patterns) j [] ≡ pattern_at l.symbols l.start l.ends j;
}
