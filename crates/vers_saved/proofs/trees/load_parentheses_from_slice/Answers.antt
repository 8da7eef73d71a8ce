use Rattle.vers_saved.proofs.Names.{length, refl, ◌∙◌, rules, limbs, equal_limbs}
use Rattle.vers_saved.proofs.trees.load_parentheses_from_slice.Goals as goal

pub returns-in_err-shape-clause-back : goal.returns-in_err-shape-clause-back
returns-in_err-shape-clause-back g c = λ x whole e.
    search (rules, (rw c.tree_kind.ensures at c.in_err-shape.ensures.back) 1 (length x) c.args.size (limbs x) refl whole e)

pub returns-clause-back : goal.returns-clause-back
returns-clause-back g c = λ x whole e.
    let one = (rw c.tree_kind.ensures at c.in_ok-shape.ensures.back) 1 (length x) c.args.size (limbs x) refl whole e in
    let m = c.parentheses_of.ensures in
    equal_limbs c.parentheses_of.result x (m.length ∙ one.1) (m.limbs ∙ one.3)
