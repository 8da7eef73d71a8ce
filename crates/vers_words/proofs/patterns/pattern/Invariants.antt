use Rattle.vers_words.proofs.Imports.{◌≡◌, ◌≤◌, length, Some}
use Rattle.vers_words.specs.Patterns.{joined, pattern_of}
use Rattle.vers_words.proofs.patterns.pattern.Given as goal

abbrev pub invariant-loop-start : goal.invariant-loop-start
invariant-loop-start g l = record {
  reads : pattern_of l.text ≡ joined (Some l.symbols.items) (pattern_of l.rest);
  short : length l.rest ≤ length l.text;
}

abbrev pub decreases-loop-start : goal.decreases-loop-start
decreases-loop-start g l = length l.rest
