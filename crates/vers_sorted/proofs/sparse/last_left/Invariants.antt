use Rattle.vers_sorted.proofs.Names.{◌≡◌, ◌∷◌, length, last_of}
use Rattle.vers_sorted.proofs.sparse.last_left.Given as goal

abbrev pub invariant-loop-number : goal.invariant-loop-number
invariant-loop-number g l = last_of (l.last ∷ g.N.Numbers.left l.numbers) ≡ last_of (g.N.Numbers.left l.fn.numbers)

abbrev pub decreases-loop-number : goal.decreases-loop-number
decreases-loop-number g l = length (g.N.Numbers.left l.numbers)
