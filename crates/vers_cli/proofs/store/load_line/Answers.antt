use Rattle.vers_cli.proofs.Names.{refl}
use Rattle.vers_cli.specs.Rules.{line_loaded}
use Rattle.vers_cli.proofs.store.load_line.Goals as goal

pub returns-in_default : goal.returns-in_default
unfolding line_loaded
returns-in_default g c = rw (← c.without_return.ensures, c.in_default.ensures.words) refl

pub returns-in-None : goal.returns-in-None
unfolding line_loaded
returns-in-None g c = rw (← c.without_return.ensures, c.in-Some.ensures.words, ← c.load_of.ensures, c.in-None.is) refl

pub returns-in-Some-load_of : goal.returns-in-Some-load_of
unfolding line_loaded
returns-in-Some-load_of g c =
    rw (← c.without_return.ensures, c.in-Some.ensures.words, ← c.load_of.ensures, c.in-Some-load_of.is) c.load.ensures
