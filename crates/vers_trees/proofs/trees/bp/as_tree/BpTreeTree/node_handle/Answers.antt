use Rattle.vers_trees.proofs.kin.NodeList.{nodes_by, text-forest_of}
use Rattle.vers_trees.proofs.Names.{get_or_past, arith, select}
use Rattle.vers_trees.proofs.trees.bp.as_tree.BpTreeTree.node_handle.Goals as goal

pub returns-clause-past : goal.returns-clause-past
unfolding select
returns-clause-past g c = λ h. (grind (arith, get_or_past, nodes_by, text-forest_of))
