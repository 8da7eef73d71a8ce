use Rattle.vers_trees.proofs.Names.{◌∙◌}
use Rattle.vers_trees.proofs.levels.LevelNodes.{level_next_is_search, node_pair}
use Rattle.vers_trees.proofs.trees.bp.BpTree.level_next_counted.Goals as goal

pub returns-clause-value : goal.returns-clause-value
returns-clause-value g c =
    (rw c.end_counted-close.ensures.value at c.fwd_search_counted.ensures.value) ∙ level_next_is_search _ c.requires.balanced _ (node_pair _ c.requires.balanced _ c.requires.node)
