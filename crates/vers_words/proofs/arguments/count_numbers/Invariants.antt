use Rattle.vers_words.proofs.Imports.{◌≡◌, ◌+◌, ◌≤◌, length, option_map, words_in, all_numbers}
use Rattle.vers_words.proofs.Numbers.{count_then}
use Rattle.vers_words.proofs.arguments.count_numbers.Given as goal

abbrev pub invariant-loop-word : goal.invariant-loop-word
invariant-loop-word l =
    (option_map length (all_numbers (words_in l.arguments)) ≡ count_then l.count (all_numbers (words_in l.rest)))
    × (l.count + length l.rest ≤ length l.arguments)

abbrev pub decreases-loop-word : goal.decreases-loop-word
decreases-loop-word l = length l.rest
