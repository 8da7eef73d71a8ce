use Rattle.std.proofs.Common.{◌≡◌, ◌+◌, ◌≤◌, length}
use Rattle.std.specs.Prelude.{option_map}
use Rattle.vers_words.specs.Text.{words_in}
use Rattle.vers_words.specs.Arguments.{all_numbers}
use Rattle.vers_files.specs.CutSymbols.{cut_among}
use Rattle.vers_files.proofs.Cuts.{cut_then}
use Rattle.vers_files.proofs.cut.numbers_cut.Given as goal

abbrev pub invariant-loop-word : goal.invariant-loop-word
invariant-loop-word l =
    (option_map (cut_among l.width) (all_numbers (words_in l.arguments)) ≡ cut_then l.width l.count (all_numbers (words_in l.rest)))
    × (l.count + length l.rest ≤ length l.arguments)

abbrev pub decreases-loop-word : goal.decreases-loop-word
decreases-loop-word l = length l.rest
