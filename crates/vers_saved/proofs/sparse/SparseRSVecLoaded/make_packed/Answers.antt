use Rattle.vers_saved.proofs.Names.{◌-◌, ap, length, get_or, take}
use Rattle.vers_saved.proofs.SparseLists.{first_below}
use Rattle.vers_saved.proofs.sparse.SparseRSVecLoaded.make_packed.Goals as goal

pub new-requires-clause-within : goal.new-requires-clause-within
new-requires-clause-within g c =
    first_below c.args.of.count c.args.of.width c.args.held.now.items (take (length c.as_slice-words.result.now - 1) c.as_slice-words.result.now)
    (get_or c.as_slice-words.result.now (length c.as_slice-words.result.now - 1) 0) c.requires.whole
    (ap (λ l. take (length l - 1) l) c.as_slice-words.ensures.value) (ap (λ l. get_or l (length l - 1) 0) c.as_slice-words.ensures.value)
