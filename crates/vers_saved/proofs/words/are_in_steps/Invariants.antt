use Rattle.vers_saved.proofs.Names.{◌≡◌, suc, take, each_next, stands, words_among}
use Rattle.vers_saved.proofs.words.are_in_steps.Given as goal

-- whether the words so far are in the order
abbrev pub invariant-loop-k : goal.invariant-loop-k
invariant-loop-k g l = l.holds ≡ each_next (stands l.order) (take (suc l.k) (words_among l.n (g.W.Words.words l.words)))
