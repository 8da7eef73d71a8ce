use Rattle.vers_cli.proofs.Names.{each_next-ascending, words_in, first_numbers}
use Rattle.vers_cli.proofs.sorted.load.Goals as goal

pub elements_of-requires-clause-ascending : goal.elements_of-requires-clause-ascending
elements_of-requires-clause-ascending g c = (each_next-ascending (first_numbers (words_in c.args.arguments.now))).0 c.in-Some.ensures.order
