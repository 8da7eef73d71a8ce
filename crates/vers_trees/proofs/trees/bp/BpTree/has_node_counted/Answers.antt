use Rattle.vers_trees.proofs.Names.{refl, arith}
use Rattle.vers_trees.proofs.PublicLaws.{node_iff_one}
use Rattle.vers_trees.proofs.trees.bp.BpTree.has_node_counted.Goals as goal

pub returns-then-is_balanced_counted-clause-node : goal.returns-then-is_balanced_counted-clause-node
returns-then-is_balanced_counted-clause-node g c = λ one. (node_iff_one c.args.self.now c.args.position (c.if-is_balanced_counted.ensures.grammar.0 refl)).1 (grind arith)
