use Rattle.vers_engine.proofs.Names.{◌≡◌, ◌++◌, List, ℕ, length, Appends}
use Rattle.vers_engine.proofs.engine.write_piece.Given as goal

abbrev pub invariant-loop-rest : goal.invariant-loop-rest
invariant-loop-rest g l =
    ((text : List ℕ) × Appends (g.W.Write.contents l.initial.writer.inner) (g.W.Write.contents l.writer.inner) text × (l.piece ≡ text ++ l.rest))
    × (l.writer.has_failed ≡ l.initial.writer.has_failed)

abbrev pub decreases-loop-rest : goal.decreases-loop-rest
decreases-loop-rest g l = length l.rest
