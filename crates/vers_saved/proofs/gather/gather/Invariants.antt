use Rattle.vers_saved.proofs.Names.{◌≡◌, ◌-◌, ◌≤◌, ◌++◌, List, ℕ, length, Consumes, bytes_of}
use Rattle.vers_saved.proofs.gather.gather.Given as goal

-- what was read was gathered as words, and no more than are wanted
abbrev pub invariant-loop-words : goal.invariant-loop-words
invariant-loop-words g l = record {
  gathered : (more : List ℕ) × Consumes (g.R.Read.remaining l.initial.reader) (g.R.Read.remaining l.reader) (bytes_of more) × (l.words.items ≡ l.initial.words.items ++ more);
  few : length l.words.items ≤ l.count;
}

abbrev pub decreases-loop-words : goal.decreases-loop-words
decreases-loop-words g l = l.count - length l.words.items
