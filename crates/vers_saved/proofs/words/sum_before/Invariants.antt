use Rattle.vers_saved.proofs.Names.{◌≡◌, take, check_sum}
use Rattle.vers_saved.proofs.words.sum_before.Given as goal

-- the sum of the words so far
abbrev pub invariant-loop-k : goal.invariant-loop-k
invariant-loop-k g l = l.sum ≡ check_sum (take l.k (g.W.Words.words l.words))
