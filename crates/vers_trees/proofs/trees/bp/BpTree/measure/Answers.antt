use Rattle.vers_trees.proofs.Names.{◌≡◌, ℕ, ◌==◌, Bool, true, false, List, [], ◌∷◌, length, ◌↔◌, IsTrue, arith, refl, ◌∙◌, forest_of, children, bit_value, bool_byte}
use Rattle.vers_trees.proofs.trees.bp.BpTree.measure.Goals as goal

-- whether a list is empty, as a number
leaf_number : (xs : List ℕ) (r : Bool) → IsTrue r ↔ (xs ≡ []) → bool_byte r ≡ bit_value (length xs == 0)
leaf_number [] true e = refl
leaf_number [] false e = let h = e.1 refl in absurd (cc)
leaf_number (x ∷ xs) true e = let h = e.0 refl in absurd (cc)
leaf_number (x ∷ xs) false e = grind (arith)

pub returns-in-IsLeaf : goal.returns-in-IsLeaf
returns-in-IsLeaf g c =
    rw c.in-IsLeaf.is (c.from.ensures ∙ leaf_number (children (forest_of c.args.self.now) c.args.node) c.is_leaf.result c.is_leaf.ensures)
