use Rattle.vers_words.proofs.Imports.{◌≡◌, length, words_in, all_numbers}
use Rattle.vers_words.proofs.Numbers.{numbers_then}
use Rattle.vers_words.proofs.arguments.all_numbers.Given as goal

abbrev pub invariant-loop-word : goal.invariant-loop-word
invariant-loop-word g l = all_numbers (words_in l.arguments) ≡ numbers_then l.numbers.items (all_numbers (words_in l.rest))

abbrev pub decreases-loop-word : goal.decreases-loop-word
decreases-loop-word g l = length l.rest
