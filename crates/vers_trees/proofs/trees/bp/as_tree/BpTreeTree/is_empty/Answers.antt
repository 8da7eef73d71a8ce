use Rattle.vers_trees.proofs.kin.Kin.{empty_by}
use Rattle.vers_trees.proofs.trees.bp.as_tree.BpTreeTree.is_empty.Goals as goal

pub returns : goal.returns
returns g c = empty_by c.args.self.now c.requires.balanced c.is_empty.result c.is_empty.ensures
