use Rattle.vers_trees.proofs.Names.{None, Some, sym, ◌∙◌}
use Rattle.vers_trees.proofs.levels.LevelNodes.{level_prev_is_search, node_pair}
use Rattle.vers_trees.proofs.trees.bp.BpTree.level_prev_counted.Goals as goal

pub returns-in_err-close-clause-value : goal.returns-in_err-close-clause-value
returns-in_err-close-clause-value g c = c.from_residual.ensures ∙ level_prev_is_search c.args.self.now c.requires.balanced c.args.node None (node_pair c.args.self.now c.requires.balanced c.args.node c.requires.node) (sym (let a = c.in_err-close.ensures in a.value))

pub returns-clause-value : goal.returns-clause-value
returns-clause-value g c = c.open_counted.ensures.value ∙ level_prev_is_search c.args.self.now c.requires.balanced c.args.node (Some c.in_ok-close.close) (node_pair c.args.self.now c.requires.balanced c.args.node c.requires.node) (sym (let a = c.in_ok-close.ensures in a.value))
