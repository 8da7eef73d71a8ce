use Rattle.vers_trees.proofs.Names.{◌∙◌}
use Rattle.vers_trees.proofs.kin.Kin.{parent_is_search, node_pair}
use Rattle.vers_trees.proofs.trees.bp.BpTree.parent_counted.Goals as goal

pub returns-clause-value : goal.returns-clause-value
returns-clause-value g c = c.bwd_search_counted.ensures.value ∙ parent_is_search _ c.requires.balanced _ (node_pair _ c.requires.balanced _ c.requires.node)
