use Rattle.vers_trees.proofs.Names.{ℕ, Option, unwrap_or, ap, ◌∙◌}
use Rattle.vers_trees.proofs.kin.Kin.{closing_by, closes_inside}
use Rattle.vers_trees.proofs.trees.bp.BpTree.end_counted.Goals as goal

pub returns-clause-value : goal.returns-clause-value
returns-clause-value g c = c.unwrap_or.ensures ∙ ap (λ (o : Option ℕ). unwrap_or o c.args.node) (c.close_counted.ensures.value ∙ closing_by c.args.self.now c.requires.balanced c.args.node c.requires.node)

pub returns-clause-after : goal.returns-clause-after
returns-clause-after g c = rw (returns-clause-value g c) (closes_inside c.args.self.now c.requires.balanced c.args.node c.requires.node).0

pub returns-clause-inside : goal.returns-clause-inside
returns-clause-inside g c = rw (returns-clause-value g c) (closes_inside c.args.self.now c.requires.balanced c.args.node c.requires.node).1
