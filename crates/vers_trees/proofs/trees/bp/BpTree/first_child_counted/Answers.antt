use Rattle.vers_trees.proofs.Names.{rules, ◌∙◌}
use Rattle.vers_trees.proofs.kin.Kin.{first_child_is, node_pair, inside}
use Rattle.vers_trees.proofs.trees.bp.BpTree.first_child_counted.Goals as goal

pub opens_after-requires : goal.opens_after-requires
opens_after-requires g c = (search rules, inside c.args.self.now c.args.node (node_pair c.args.self.now c.requires.balanced c.args.node c.requires.node))

pub returns-clause-value : goal.returns-clause-value
returns-clause-value g c = c.opens_after.ensures.value ∙ first_child_is c.args.self.now c.requires.balanced c.args.node (node_pair c.args.self.now c.requires.balanced c.args.node c.requires.node)
