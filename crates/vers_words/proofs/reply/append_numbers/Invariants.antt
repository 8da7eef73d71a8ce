use Rattle.vers_words.proofs.Imports.{◌≡◌, ◌++◌, ◌∷◌, take, decimal, flat_map}
use Rattle.vers_words.proofs.reply.append_numbers.Given as goal

abbrev pub invariant-loop-number : goal.invariant-loop-number
invariant-loop-number g l = l.line.items ≡ l.initial.line.items ++ flat_map (λ other. 32 ∷ decimal other) (take l.number-index l.others)
