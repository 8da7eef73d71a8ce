use Rattle.vers_trees.proofs.kin.Kin.{size_by}
use Rattle.vers_trees.proofs.trees.bp.as_tree.BpTreeTree.size.Goals as goal

pub returns : goal.returns
returns g c = size_by c.args.self.now c.requires.balanced _ c.size.ensures
