use Rattle.vers_words.proofs.Imports.{◌≡◌, length, Some, words_in}
use Rattle.vers_words.specs.Patterns.{joined, words_symbols}
use Rattle.vers_words.proofs.patterns.append_words.Given as goal

abbrev pub invariant-loop-word : goal.invariant-loop-word
invariant-loop-word g l = joined (Some l.fn.symbols.items) (words_symbols (words_in l.words)) ≡ joined (Some l.symbols.items) (words_symbols (words_in l.rest))

abbrev pub decreases-loop-word : goal.decreases-loop-word
decreases-loop-word g l = length l.rest
