use Rattle.vers_saved.proofs.Names.{arith, length, inl, inr}
use Rattle.vers_saved.proofs.Parentheses.{whole_tree, no_tree}
use Rattle.vers_saved.proofs.trees.BpTreeSaved.shape.Goals as goal

pub returns-clause-whole : goal.returns-clause-whole
returns-clause-whole g c = whole_tree g.row.BLOCK_SIZE c.args.self.now (omega arith) (omega arith) (omega (arith, c.len.ensures.bounded))

pub returns-then-this-eq0-clause-none : goal.returns-then-this-eq0-clause-none
returns-then-this-eq0-clause-none g c = λ none. no_tree g.row.BLOCK_SIZE (length c.args.self.now) (elim c.then-this-eq0.either [ inl none ↦ inl none | inr wide ↦ inr wide.1 ])
