use Rattle.vers_saved.proofs.SortedForms.{ones_below, ones_rise, sparse_again, sparse_few, sparse_rest}
use Rattle.vers_saved.proofs.sparse.SparseRSVecLoaded.make.Goals as goal

pub list_in-requires-clause-list : goal.list_in-requires-clause-list
list_in-requires-clause-list g c = rw c.as_slice-words.ensures.value (sparse_rest c.args.held.now.items c.args.of.count c.args.of.width c.requires)

pub from_sorted-requires-clause-rising : goal.from_sorted-requires-clause-rising
from_sorted-requires-clause-rising g c =
    ones_rise c.args.held.now.items c.args.of.count c.args.of.width c.requires c.in_ok-ones.ones c.in_ok-ones.ensures.ascending (rw c.as_slice-words.ensures.value at c.in_ok-ones.ensures.words)

pub from_sorted-requires-clause-within : goal.from_sorted-requires-clause-within
from_sorted-requires-clause-within g c =
    rw c.as_slice-words.ensures.value
    (ones_below c.args.held.now.items c.args.of.count c.args.of.width c.requires c.in_ok-ones.ones c.in_ok-ones.ensures.ascending (rw c.as_slice-words.ensures.value at c.in_ok-ones.ensures.words))

pub returns : goal.returns
returns g c =
    let again = sparse_again c.args.held.now.items c.args.of.count c.args.of.width c.requires c.in_ok-ones.ones c.in_ok-ones.ensures.ascending (rw c.as_slice-words.ensures.value at c.in_ok-ones.ensures.words)
    c.from_sorted.result (rw c.as_slice-words.ensures.value at c.from_sorted.ensures.length) c.from_sorted.ensures.positions in
    (again.0, (sparse_few c.args.held.now.items c.args.of.count c.args.of.width c.requires).2, again.1, tt)
