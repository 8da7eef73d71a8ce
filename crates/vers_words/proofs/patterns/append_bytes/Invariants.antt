use Rattle.vers_words.proofs.Imports.{◌≡◌, ◌++◌, take}
use Rattle.vers_words.proofs.patterns.append_bytes.Given as goal

abbrev pub invariant-loop-byte : goal.invariant-loop-byte
invariant-loop-byte g l = l.symbols.items ≡ l.fn.symbols.items ++ take l.byte-index l.bytes
