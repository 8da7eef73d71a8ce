use Rattle.vers_saved.proofs.Names.{drop}
use Rattle.vers_saved.proofs.SortedParts.{dropped_fit, taken_fit}
use Rattle.vers_saved.proofs.words.is_in_order.Goals as goal

pub are_of_list-requires-clause-fit : goal.are_of_list-requires-clause-fit
are_of_list-requires-clause-fit g c = rw c.new.ensures (taken_fit c.args.n (drop 5 (g.W.Words.words c.args.words.now)) (dropped_fit 5 (g.W.Words.words c.args.words.now) c.requires.fit))
