use Rattle.vers_saved.proofs.Names.{length, refl, ◌∙◌, rules, limbs, equal_limbs}
use Rattle.vers_saved.proofs.trees.load_tree.Goals as goal

pub returns-in_err-shape-clause-back : goal.returns-in_err-shape-clause-back
returns-in_err-shape-clause-back g c = λ x whole e.
    search (rules, (rw c.tree_kind.ensures at c.in_err-shape.ensures.back) 1 (length x) g.row.BLOCK_SIZE (limbs x) refl whole e)

pub returns-clause-back : goal.returns-clause-back
returns-clause-back g c = λ x whole e.
    let one = (rw c.tree_kind.ensures at c.in_ok-shape.ensures.back) 1 (length x) g.row.BLOCK_SIZE (limbs x) refl whole e in
    let m = c.in_ok-tree_of.ensures in
    equal_limbs c.in_ok-tree_of.field-0 x (m.0 ∙ one.1) (m.2 ∙ one.3)
