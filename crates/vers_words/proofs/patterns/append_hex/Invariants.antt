use Rattle.vers_words.proofs.Imports.{◌≡◌, length, Some}
use Rattle.vers_words.specs.Patterns.{hex_bytes, joined}
use Rattle.vers_words.proofs.patterns.append_hex.Given as goal

abbrev pub invariant-loop-high : goal.invariant-loop-high
invariant-loop-high g l = joined (Some l.fn.symbols.items) (hex_bytes l.digits) ≡ joined (Some l.symbols.items) (hex_bytes l.rest)

abbrev pub decreases-loop-high : goal.decreases-loop-high
decreases-loop-high g l = length l.rest
