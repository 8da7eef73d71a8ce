use Rattle.vers_trees_tests.proofs.tests.nodes.are_balanced.Goals as goal

pub returns : goal.returns
returns g c = λ h. c.is_balanced.ensures.grammar.0 h
