use Rattle.vers_trees.proofs.Names.{ℕ, arith, sym, ap, ◌∙◌, forest_of, first_rise_after, level, first_of}
use Rattle.vers_trees.proofs.searches.Beside.{with_sign}
use Rattle.vers_trees.proofs.levels.LevelNodes.{first_root, too_deep, level_leftmost_is_search}
use Rattle.vers_trees.proofs.trees.bp.BpTree.level_leftmost_counted.Goals as goal

pub returns-then-depth-len-clause-value : goal.returns-then-depth-len-clause-value
returns-then-depth-len-clause-value g c = sym (too_deep c.args.self.now c.requires.balanced c.args.depth (omega arith)).0

pub returns-then-depth-eq0-clause-value : goal.returns-then-depth-eq0-clause-value
returns-then-depth-eq0-clause-value g c = sym (first_root c.args.self.now c.requires.balanced (omega arith)) ∙ ap (λ (d : ℕ). first_of (level (forest_of c.args.self.now) d)) (sym c.if-depth-eq0.true)

pub returns-clause-value : goal.returns-clause-value
returns-clause-value g c = c.fwd_search_counted.ensures.value ∙ ap (first_rise_after c.args.self.now 0) (with_sign c.args.depth (omega arith)) ∙ level_leftmost_is_search c.args.self.now c.requires.balanced c.args.depth (omega arith)
