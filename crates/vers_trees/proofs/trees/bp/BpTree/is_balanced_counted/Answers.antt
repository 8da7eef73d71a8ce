use Rattle.vers_trees.proofs.Names.{◌≡◌, true, Bool, List, subst, sym, ◌∙◌, same_from_decides, are_balanced, IsBalanced}
use Rattle.vers_trees.proofs.layout.Build.{balanced_iff_level, some_bits, balance_decides}
use Rattle.vers_trees.proofs.trees.bp.BpTree.is_balanced_counted.Goals as goal

pub returns-clause-grammar : goal.returns-clause-grammar
returns-clause-grammar g c =
    let some = some_bits c.self.inside.bits (λ e. let f = c.is_empty.ensures.1 (sym c.self.view_is ∙ e) in let t = c.if-is_empty.false in cc) in
    let b = balanced_iff_level c.self.inside.bits g.row.BLOCK_SIZE c.self.inside.tree.first c.self.inside.tree.nodes c.root_counted.result c.self.invariant some c.root_counted.ensures.value in
    subst (λ (l : List Bool). (c.is_level.result ≡ true → IsBalanced l) × (IsBalanced l → c.is_level.result ≡ true)) c.self.view_is
    (λ t. b.1 (c.is_level.ensures.0 t), λ h. c.is_level.ensures.1 (b.0 h))

pub returns-clause-value : goal.returns-clause-value
returns-clause-value g c = same_from_decides _ (are_balanced c.args.self.now) (returns-clause-grammar g c) (balance_decides c.args.self.now)
