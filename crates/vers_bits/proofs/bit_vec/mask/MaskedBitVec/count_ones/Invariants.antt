use Rattle.vers_bits.proofs.Names.{◌≡◌, ◌*◌, ◌≤◌, ℕ, true, length, count, masked, AnswersAs}
use Rattle.vers_bits.proofs.bit_vec.mask.MaskedBitVec.count_ones.Given as goal

abbrev pub invariant-loop-k : goal.invariant-loop-k
invariant-loop-k g l = record {
  counted : (f : ℕ → ℕ → ℕ) → AnswersAs (goal.F-post g l.self.mask) f → l.ones ≡ count true (masked f l.self.left l.self.right) (64 * l.k);
  few : l.ones ≤ 64 * l.k;
  inside : l.ones ≤ length l.self.left;
}
