use Rattle.vers_cli.proofs.name.line_of.Goals as goal

pub returns-in-Tree : goal.returns-in-Tree
returns-in-Tree g c = rw c.in-Tree.is c.named-in-Tree.ensures

pub returns-in-Symbols : goal.returns-in-Symbols
returns-in-Symbols g c = rw c.in-Symbols.is c.named-in-Symbols.ensures

pub returns-in-Inverted : goal.returns-in-Inverted
returns-in-Inverted g c = rw c.in-Inverted.is c.named-in-Inverted.ensures
