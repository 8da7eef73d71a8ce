use Rattle.vers_trees.proofs.Names.{Some, ap, refl, is_ancestor, le-leb, lt-leb}
use Rattle.vers_trees.proofs.trees.bp.BpTree.is_ancestor_counted.Goals as goal

pub returns-then-ancestor-descendant-clause-value : goal.returns-then-ancestor-descendant-clause-value
unfolding is_ancestor
returns-then-ancestor-descendant-clause-value g c = ap Some (rw (c.end_counted-outer.ensures.value, c.end_counted-inner.ensures.value, le-leb c.args.ancestor c.args.descendant c.if-ancestor-descendant.true) refl)

pub returns-else-ancestor-descendant-clause-value : goal.returns-else-ancestor-descendant-clause-value
unfolding is_ancestor
returns-else-ancestor-descendant-clause-value g c = ap Some (rw (lt-leb c.args.ancestor c.args.descendant c.if-ancestor-descendant.false) refl)
