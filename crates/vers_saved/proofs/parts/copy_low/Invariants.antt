use Rattle.vers_saved.proofs.Names.{◌≡◌, ◌+◌, ◌<◌, ℕ, length, limb, slice_index}
use Rattle.vers_saved.proofs.parts.copy_low.Given as goal

-- the words so far were copied
abbrev pub invariant-loop-k : goal.invariant-loop-k
invariant-loop-k g l = record {
  len : length l.out ≡ length l.initial.out;
  copied : (j : ℕ) → j < l.k → slice_index l.out j ≡ limb l.low (l.from + j);
}
