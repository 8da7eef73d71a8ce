use Rattle.vers_saved.proofs.Names.{◌≡◌, is_padded}
use Rattle.vers_saved.proofs.words.is_padded.Given as goal

-- whether the rows so far end padded
abbrev pub invariant-loop-k : goal.invariant-loop-k
invariant-loop-k g l = l.holds ≡ is_padded l.k l.rows.bits (g.W.Words.words l.words)
