use Rattle.vers_cli.proofs.Names.{◌≡◌, length, option_and_then, words_in, all_numbers, posted_of}
use Rattle.vers_cli.proofs.Pairs.{posted_then}
use Rattle.vers_cli.proofs.documents.Pairs.fill.Given as goal

abbrev pub invariant-loop-document : goal.invariant-loop-document
invariant-loop-document g l = record {
  read : option_and_then posted_of (all_numbers (words_in l.arguments))
      ≡ posted_then l.self.documents.items l.self.costs.items (option_and_then posted_of (all_numbers (words_in l.rest)));
  paired : length l.self.documents.items ≡ length l.self.costs.items;
}

abbrev pub decreases-loop-document : goal.decreases-loop-document
decreases-loop-document g l = length l.rest
