use Rattle.vers_trees.proofs.Names.{◌∙◌}
use Rattle.vers_trees.proofs.kin.Kin.{next_sibling_is, node_pair}
use Rattle.vers_trees.proofs.trees.bp.BpTree.next_sibling_counted.Goals as goal

pub returns-clause-value : goal.returns-clause-value
returns-clause-value g c =
    (rw c.end_counted-close.ensures.value at c.opens_after.ensures.value) ∙ next_sibling_is _ c.requires.balanced _ (node_pair _ c.requires.balanced _ c.requires.node)
