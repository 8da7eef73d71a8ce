use Rattle.vers_trees.proofs.Names.{◌-◌, arith, sym, ◌∙◌}
use Rattle.vers_trees.proofs.kin.Kin.{last_child_none, last_child_is_search, node_pair}
use Rattle.vers_trees.proofs.trees.bp.BpTree.last_child_counted.Goals as goal

pub returns-then-last-node-clause-value : goal.returns-then-last-node-clause-value
returns-then-last-node-clause-value g c = sym (last_child_none c.args.self.now c.requires.balanced c.args.node (node_pair c.args.self.now c.requires.balanced c.args.node c.requires.node) (omega arith))

pub returns-clause-value : goal.returns-clause-value
returns-clause-value g c =
    c.open_counted.ensures.value ∙ last_child_is_search c.args.self.now c.requires.balanced c.args.node (c.end_counted-close.result - 1) (node_pair c.args.self.now c.requires.balanced c.args.node c.requires.node) (omega arith) (omega arith)
