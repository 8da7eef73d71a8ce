use Rattle.vers_trees.proofs.Names.{ℕ, Bool, List, ◌+◌, ◌*◌, IsNumberAt}
use Rattle.vers_trees.proofs.searches.PartNodes.{IsSoFar}
use Rattle.vers_trees.proofs.trees.bp.scan.node_of_word.Given as goal

abbrev pub invariant-loop-k : goal.invariant-loop-k
invariant-loop-k l = (bits : List Bool) (p : ℕ) → IsNumberAt bits p 64 l.word → IsSoFar bits p (p + 8 * l.k) l.node
