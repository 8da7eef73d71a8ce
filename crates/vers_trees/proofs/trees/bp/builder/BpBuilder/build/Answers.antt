use Rattle.vers_trees.proofs.layout.Building.{even_built}
use Rattle.vers_trees.proofs.trees.bp.builder.BpBuilder.build.Goals as goal

pub returns-clause-uneven : goal.returns-clause-uneven
returns-clause-uneven g c = λ uneven. absurd (uneven (even_built _ _ _ _ c.self.invariant c.if-self-ne0.false c.self.view_is))

pub returns-in_err-indexed-clause-uneven : goal.returns-in_err-indexed-clause-uneven
returns-in_err-indexed-clause-uneven g c = λ uneven. absurd (uneven (even_built _ _ _ _ c.self.invariant c.if-self-ne0.false c.self.view_is))
