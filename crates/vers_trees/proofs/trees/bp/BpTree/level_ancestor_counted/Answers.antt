use Rattle.vers_trees.proofs.Names.{◌≡◌, ℕ, Some, arith, sym, ap, subst, ◌∙◌, forest_of, last_rise_before, level_ancestor}
use Rattle.vers_trees.proofs.searches.Beside.{negated}
use Rattle.vers_trees.proofs.levels.LevelNodes.{no_steps_up, too_far_up, level_ancestor_is_search, node_pair}
use Rattle.vers_trees.proofs.trees.bp.BpTree.level_ancestor_counted.Goals as goal

pub returns-then-levels-eq0-clause-value : goal.returns-then-levels-eq0-clause-value
returns-then-levels-eq0-clause-value g c = sym (subst (λ (t : ℕ). level_ancestor (forest_of c.args.self.now) c.args.node t ≡ Some c.args.node) (sym c.if-levels-eq0.true) (no_steps_up c.args.self.now c.requires.balanced c.args.node (node_pair c.args.self.now c.requires.balanced c.args.node c.requires.node)))

pub returns-then-levels-len-clause-value : goal.returns-then-levels-len-clause-value
returns-then-levels-len-clause-value g c = sym (too_far_up c.args.self.now c.requires.balanced c.args.node c.args.levels (node_pair c.args.self.now c.requires.balanced c.args.node c.requires.node) (omega arith))

pub overflow_sub-levels : goal.overflow_sub-levels
overflow_sub-levels g c = (negated c.args.levels (omega arith)).0

pub returns-clause-value : goal.returns-clause-value
returns-clause-value g c = c.bwd_search_counted.ensures.value ∙ ap (last_rise_before c.args.self.now c.args.node) (negated c.args.levels (omega arith)).1 ∙ level_ancestor_is_search c.args.self.now c.requires.balanced c.args.node c.args.levels (node_pair c.args.self.now c.requires.balanced c.args.node c.requires.node) (omega arith)
