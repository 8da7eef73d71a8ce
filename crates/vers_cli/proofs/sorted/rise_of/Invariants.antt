use Rattle.vers_cli.proofs.Names.{◌≡◌, ◌+◌, ◌≤◌, length, words_in, all_numbers, in_order}
use Rattle.vers_cli.proofs.Rises.{rise_after}
use Rattle.vers_cli.proofs.sorted.rise_of.Given as goal

abbrev pub invariant-loop-word : goal.invariant-loop-word
invariant-loop-word l = record {
  after : rise_after (in_order l.strictly) 0 0 (all_numbers (words_in l.arguments)) ≡ rise_after (in_order l.strictly) l.rise.len l.rise.last (all_numbers (words_in l.rest));
  within : l.rise.len + length l.rest ≤ length l.arguments;
}

abbrev pub decreases-loop-word : goal.decreases-loop-word
decreases-loop-word l = length l.rest
