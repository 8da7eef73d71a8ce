use Rattle.vers_trees.proofs.Names.{negsuc, arith, sym}
use Rattle.vers_trees.proofs.searches.Searches.{after_some}
use Rattle.vers_trees.proofs.trees.bp.search.Searched.tree_from.Goals as goal

pub overflow_add-result : goal.overflow_add-result
overflow_add-result g c =
    let f = after_some c.args.self.bits.now c.args.position (negsuc 0) c.in_ok-close.close (sym c.in_ok-close.ensures.value) in
    record { fits = omega arith }
