use Rattle.std.proofs.Common.{◌≡◌, ℕ, ◌<◌, ◌≤◌, ◌∷◌, slice_index}
use Rattle.vers_c.proofs.counts.are_ends.Given as goal

abbrev pub invariant-loop-k : goal.invariant-loop-k
invariant-loop-k l = record {
  start : l.start ≡ slice_index (0 ∷ l.ends) l.k;
  ends : (j : ℕ) → j < l.k → (slice_index (0 ∷ l.ends) j ≤ slice_index l.ends j) × (slice_index l.ends j ≤ l.len);
}
