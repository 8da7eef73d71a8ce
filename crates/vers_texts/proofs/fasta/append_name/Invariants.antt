use Rattle.std.proofs.Common.{◌≡◌, ◌++◌, ◌+◌, ◌%◌, map, take}
use Rattle.vers_texts.proofs.fasta.append_name.Given as goal

abbrev pub invariant-loop-byte : goal.invariant-loop-byte
invariant-loop-byte g l = l.text.items ≡ l.fn.text.items ++ map (λ b. 128 + b % 128) (take l.byte-index l.name)
