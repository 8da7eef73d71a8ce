use Rattle.vers_trees.proofs.kin.Kin.{root_by}
use Rattle.vers_trees.proofs.trees.bp.as_tree.BpTreeTree.root.Goals as goal

pub returns : goal.returns
returns g c = root_by c.args.self.now c.requires.balanced c.root.result c.root.ensures.none c.root.ensures.some
