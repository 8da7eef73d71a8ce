use Rattle.vers_saved.proofs.Names.{◌≡◌, ◌+◌, take, vec_len, vec_capacity, check_sum, words_among}
use Rattle.vers_saved.proofs.words.copy_summed.Given as goal

-- the words so far were copied and mixed in, and there is room for the rest
abbrev pub invariant-loop-k : goal.invariant-loop-k
invariant-loop-k g l = record {
  items : l.kept.items ≡ take l.k (words_among l.n (g.W.Words.words l.words));
  summed : l.sum ≡ check_sum (take (l.k + 5) (g.W.Words.words l.words));
  len : vec_len l.kept ≡ l.k;
  capacity : vec_capacity l.kept ≡ vec_capacity l.initial.kept;
}
