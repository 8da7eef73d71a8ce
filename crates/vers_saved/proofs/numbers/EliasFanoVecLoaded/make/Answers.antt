use Rattle.vers_saved.proofs.SortedForms.{of_sorted}
use Rattle.vers_saved.proofs.numbers.EliasFanoVecLoaded.make.Goals as goal

pub list_in-requires-clause-list : goal.list_in-requires-clause-list
list_in-requires-clause-list g c = rw c.as_slice.ensures.value (of_sorted c.args.held.now.items c.args.of.count c.args.of.width c.requires)
