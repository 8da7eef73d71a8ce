use Rattle.vers_cli.proofs.Names.{◌≡◌, [], length, words_in, all_numbers}
use Rattle.vers_cli.proofs.Packs.{bits_then}
use Rattle.vers_cli.proofs.symbols.packed_numbers.Given as goal

abbrev pub invariant-loop-word : goal.invariant-loop-word
invariant-loop-word g l = bits_then [] l.width (all_numbers (words_in l.arguments)) ≡ bits_then l.packed l.width (all_numbers (words_in l.rest))

abbrev pub decreases-loop-word : goal.decreases-loop-word
decreases-loop-word g l = length l.rest
