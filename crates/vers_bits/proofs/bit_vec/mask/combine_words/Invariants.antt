use Rattle.vers_bits.proofs.Names.{◌≡◌, ◌<◌, ◌≤◌, ℕ, length, get_or, AnswersAs}
use Rattle.vers_bits.proofs.bit_vec.mask.combine_words.Given as goal

abbrev pub invariant-loop-k : goal.invariant-loop-k
invariant-loop-k g l = record {
  long : length l.words.items ≡ length l.initial.words.items;
  others : (j : ℕ) → l.k ≤ j → get_or l.words.items j 0 ≡ get_or l.initial.words.items j 0;
  done : (f : ℕ → ℕ → ℕ) → AnswersAs (goal.F-post g l.mask) f → (j : ℕ) → j < l.k → get_or l.words.items j 0 ≡ f (get_or l.initial.words.items j 0) (get_or l.others j 0);
}
