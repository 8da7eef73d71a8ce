use Rattle.vers_trees.proofs.Names.{ℕ, None, Some, ◌-◌, arith, sym, ap, ◌∙◌, forest_of, level, last_of}
use Rattle.vers_trees.proofs.searches.Beside.{with_sign}
use Rattle.vers_trees.proofs.levels.LevelNodes.{too_deep, last_root_is_search, level_rightmost_is_search}
use Rattle.vers_trees.proofs.trees.bp.BpTree.level_rightmost_counted.Goals as goal

pub returns-then-depth-len-clause-value : goal.returns-then-depth-len-clause-value
returns-then-depth-len-clause-value g c = sym (too_deep c.args.self.now c.requires.balanced c.args.depth (omega arith)).1

pub returns-then-depth-eq0-clause-value : goal.returns-then-depth-eq0-clause-value
returns-then-depth-eq0-clause-value g c = c.open_counted.ensures.value ∙ last_root_is_search c.args.self.now c.requires.balanced (c.len-len.result - 1) (omega arith) ∙ ap (λ (d : ℕ). last_of (level (forest_of c.args.self.now) d)) (sym c.if-depth-eq0.true)

pub returns-in_err-close-clause-value : goal.returns-in_err-close-clause-value
returns-in_err-close-clause-value g c = c.from_residual.ensures ∙ level_rightmost_is_search c.args.self.now c.requires.balanced (c.len-len.result - 1) c.args.depth None (omega arith) (omega arith) (sym (rw (with_sign c.args.depth (omega arith)) at c.in_err-close.ensures.value))

pub returns-clause-value : goal.returns-clause-value
returns-clause-value g c = c.open_counted-2.ensures.value ∙ level_rightmost_is_search c.args.self.now c.requires.balanced (c.len-len.result - 1) c.args.depth (Some c.in_ok-close.close) (omega arith) (omega arith) (sym (rw (with_sign c.args.depth (omega arith)) at c.in_ok-close.ensures.value))
