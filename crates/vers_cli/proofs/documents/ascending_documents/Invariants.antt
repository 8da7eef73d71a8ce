use Rattle.vers_cli.proofs.Names.{◌≡◌, ◌+◌, ◌≤◌, length, option_and_then, words_in, all_numbers, posted_of}
use Rattle.vers_cli.proofs.Pairs.{documents_after}
use Rattle.vers_cli.proofs.documents.ascending_documents.Given as goal

abbrev pub invariant-loop-last : goal.invariant-loop-last
invariant-loop-last l = record {
  after :
      documents_after 0 0 (option_and_then posted_of (all_numbers (words_in l.arguments)))
      ≡ documents_after l.rise.len l.rise.last (option_and_then posted_of (all_numbers (words_in l.rest)));
  within : l.rise.len + length l.rest ≤ length l.arguments;
}

abbrev pub decreases-loop-last : goal.decreases-loop-last
decreases-loop-last l = length l.rest
