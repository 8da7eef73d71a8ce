use Rattle.vers_cli.proofs.Names.{◌≡◌, ◌∷◌, Some, refl, ◌∙◌, words_in, all_numbers, first_numbers}
use Rattle.vers_cli.proofs.Rises.{all_below}
use Rattle.vers_cli.proofs.Orders.{accepted_if}
use Rattle.vers_cli.proofs.sparse.is_accepted.Goals as goal

pub returns-in-Some-rise_of : goal.returns-in-Some-rise_of
returns-in-Some-rise_of c =
    let ones = first_numbers (words_in c.in-Some.positions.now) in
    let told = c.in-Some-rise_of.ensures in
    let numbers : all_numbers (words_in c.args.arguments.now) ≡ Some (c.in-Some-number.len ∷ ones) =
    rw (c.in-Some.ensures.words, ← c.number.ensures, c.in-Some-number.is, told.all) refl in
    rw (numbers, told.order) (c.is_below.ensures ∙ all_below c.in-Some-number.len c.in-Some-rise_of.rise.last c.in-Some-rise_of.rise.len ones told.order told.len told.last ∙ accepted_if _ _)
