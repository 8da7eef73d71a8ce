use Rattle.vers_words.proofs.Imports.{◌≡◌, ◌++◌, drop}
use Rattle.vers_words.specs.Patterns.{gone_on, pattern_text}
use Rattle.vers_words.proofs.patterns.append_pattern.Given as goal

abbrev pub invariant-loop-symbol : goal.invariant-loop-symbol
invariant-loop-symbol g l = l.fn.text.items ++ pattern_text l.symbols ≡ l.text.items ++ gone_on l.is_open (drop l.symbol-index l.others)
