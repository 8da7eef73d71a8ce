use Rattle.vers_saved.proofs.InvertedForms.{inverted_again, inverted_few, inverted_rest, none_against}
use Rattle.vers_saved.proofs.inverted_index.InvertedIndexLoaded.make.Goals as goal

pub list_in-requires-clause-list : goal.list_in-requires-clause-list
list_in-requires-clause-list g c = rw c.as_slice-words.ensures.value (inverted_rest c.args.held.now.items c.args.of.count c.args.of.width c.requires)

pub index_of-requires : goal.index_of-requires
index_of-requires g c =
    rw c.as_slice-words.ensures.value
    (none_against c.args.held.now.items c.args.of.count c.args.of.width c.requires c.in_ok-numbers.numbers c.in_ok-numbers.ensures.ascending (rw c.as_slice-words.ensures.value at c.in_ok-numbers.ensures.words))

pub returns : goal.returns
returns g c =
    let again = inverted_again c.args.held.now.items c.args.of.count c.args.of.width c.requires c.in_ok-numbers.numbers c.in_ok-numbers.ensures.ascending (rw c.as_slice-words.ensures.value at c.in_ok-numbers.ensures.words)
    c.index_of.result (rw c.as_slice-words.ensures.value at c.index_of.ensures.value) in
    (again.0, (inverted_few c.args.held.now.items c.args.of.count c.args.of.width c.requires).2, again.1, c.index_of.ensures.index)
