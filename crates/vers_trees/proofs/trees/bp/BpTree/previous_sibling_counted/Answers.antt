use Rattle.vers_trees.proofs.Names.{◌-◌, Bool, false, List, length, get_or, arith, sym, ap, ◌∙◌}
use Rattle.vers_trees.proofs.kin.Kin.{closed_before, closes_inside, previous_sibling_is, previous_sibling_none, previous_sibling_is_search, node_pair}
use Rattle.vers_trees.proofs.trees.bp.BpTree.previous_sibling_counted.Goals as goal

pub returns-then-node-eq0-clause-value : goal.returns-then-node-eq0-clause-value
returns-then-node-eq0-clause-value g c = sym (ap (closed_before c.args.self.now) c.if-node-eq0.true) ∙ previous_sibling_is c.args.self.now c.requires.balanced c.args.node (node_pair c.args.self.now c.requires.balanced c.args.node c.requires.node)

pub is_one_counted-requires : goal.is_one_counted-requires
is_one_counted-requires g c = let v = ap (λ (l : List Bool). length l) c.self.view_is in
    omega (arith, closes_inside c.args.self.now c.requires.balanced c.args.node c.requires.node)

pub returns-then-is_one_counted-clause-value : goal.returns-then-is_one_counted-clause-value
returns-then-is_one_counted-clause-value g c = sym (previous_sibling_none c.args.self.now c.requires.balanced c.args.node (node_pair c.args.self.now c.requires.balanced c.args.node c.requires.node) (omega arith)
    (ap (λ (l : List Bool). get_or l (c.args.node - 1) false) (sym c.self.view_is) ∙ sym c.is_one_counted.ensures.value ∙ c.if-is_one_counted.true))

pub returns-clause-value : goal.returns-clause-value
returns-clause-value g c = c.open_counted.ensures.value ∙ previous_sibling_is_search c.args.self.now c.requires.balanced c.args.node (node_pair c.args.self.now c.requires.balanced c.args.node c.requires.node) (omega arith)
    (ap (λ (l : List Bool). get_or l (c.args.node - 1) false) (sym c.self.view_is) ∙ sym c.is_one_counted.ensures.value ∙ c.if-is_one_counted.false)
