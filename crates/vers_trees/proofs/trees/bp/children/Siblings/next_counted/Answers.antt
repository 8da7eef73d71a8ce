use Rattle.vers_trees.proofs.Names.{ℕ, List, Option, Some, None, sym, ap, subst, TakesFirst, Walking, siblings_left}
use Rattle.vers_trees.proofs.walks.WalksOfNodes.{walk_ends, walk_goes_on}
use Rattle.vers_trees.proofs.trees.bp.children.Siblings.next_counted.Goals as goal

pub returns-in_err-node-clause-steps : goal.returns-in_err-node-clause-steps
returns-in_err-node-clause-steps g c =
    let w = walk_ends c.self.inside.searched.bits.now c.self.inside.forward c.self.inside.position c.self.invariant.1 (sym c.in_err-node.ensures.value) in
    subst (λ (o : Option ℕ). TakesFirst c.args.self.now.left o c.args.self.now.left) (sym c.from_residual.ensures) (subst (λ (xs : List ℕ). TakesFirst xs None xs) (ap (λ (s : Walking ℕ). s.left) c.self.view_is) w)

pub invariant_of-self : goal.invariant_of-self
invariant_of-self g c =
    (c.self.invariant.0, (walk_goes_on c.self.inside.searched.bits.now c.self.inside.forward c.self.inside.position c.in_ok-node.node c.in_ok-node.position c.self.invariant.1 (sym c.in_ok-node.ensures.value)).1)

pub returns-clause-steps : goal.returns-clause-steps
returns-clause-steps g c =
    let w = walk_goes_on c.self.inside.searched.bits.now c.self.inside.forward c.self.inside.position c.in_ok-node.node c.in_ok-node.position c.self.invariant.1 (sym c.in_ok-node.ensures.value) in
    subst (λ (xs : List ℕ). TakesFirst xs (Some c.in_ok-node.node) (siblings_left c.self.inside.searched.bits.now c.self.inside.forward c.in_ok-node.position)) (ap (λ (s : Walking ℕ). s.left) c.self.view_is) w.0
