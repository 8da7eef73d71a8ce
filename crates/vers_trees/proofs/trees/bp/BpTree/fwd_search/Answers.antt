use Rattle.vers_trees.proofs.Names.{w64, ap, ◌∙◌, to_z-of_z, first_rise_after}
use Rattle.vers_trees.proofs.trees.bp.BpTree.fwd_search.Goals as goal

pub returns : goal.returns
returns g c = c.fwd_search_counted.ensures.value ∙ ap (first_rise_after c.args.self.now c.args.i) (to_z-of_z w64 c.args.r c.ranges.r)
