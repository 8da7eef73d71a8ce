use Rattle.vers_trees.proofs.Names.{w64, ap, ◌∙◌, to_z-of_z, last_rise_before}
use Rattle.vers_trees.proofs.trees.bp.BpTree.bwd_search.Goals as goal

pub returns : goal.returns
returns g c = c.bwd_search_counted.ensures.value ∙ ap (last_rise_before c.args.self.now c.args.i) (to_z-of_z w64 c.args.r c.ranges.r)
