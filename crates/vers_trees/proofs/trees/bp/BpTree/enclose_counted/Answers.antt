use Rattle.vers_trees.proofs.Names.{false, Bool, List, get_or, arith, sym, ap, ◌∙◌, last_rise_before, ints, enclosing}
use Rattle.vers_trees.proofs.searches.Beside.{enclosing_open, enclosing_close, before_past}
use Rattle.vers_trees.proofs.trees.bp.BpTree.enclose_counted.Goals as goal
use Rattle.vers_trees.proofs.trees.bp.BpTree.enclose_counted.Goals.{then-is_one_counted, else-is_one_counted}

pub returns-then-i-len-clause-value : goal.returns-then-i-len-clause-value
unfolding enclosing
returns-then-i-len-clause-value g c = grind (arith, ints, before_past)

pub returns-clause-value : goal.returns-clause-value
returns-clause-value g c =
    let here = ap (λ (l : List Bool). get_or l c.args.i false) (sym c.self.view_is) ∙ sym c.is_one_counted.ensures.value in
    elim c.if-is_one_counted.branch [
      | then-is_one_counted w ↦ c.bwd_search_counted.ensures.value ∙ ap (last_rise_before c.args.self.now c.args.i) w.rise-is ∙ enclosing_open c.args.self.now c.args.i (here ∙ w.if-is_one_counted.true)
      | else-is_one_counted w ↦ c.bwd_search_counted.ensures.value ∙ ap (last_rise_before c.args.self.now c.args.i) w.rise-is ∙ enclosing_close c.args.self.now c.args.i (here ∙ w.if-is_one_counted.false)
    ]
