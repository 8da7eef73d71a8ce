use Rattle.std.proofs.Common.{◌≡◌, ◌++◌, ◌%◌, map, take}
use Rattle.vers_texts.proofs.sites.append_low_bits.Given as goal

abbrev pub invariant-loop-symbol : goal.invariant-loop-symbol
invariant-loop-symbol g l = l.line.items ≡ l.fn.line.items ++ map (λ s. s % 128) (take l.symbol-index l.symbols)
