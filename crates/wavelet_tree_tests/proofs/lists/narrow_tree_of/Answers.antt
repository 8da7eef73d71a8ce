use Rattle.std.proofs.Common.{ℕ, ◌<◌, length, arith}
use Rattle.std.proofs.lemmas.List.{get_or-map, length-map}
use Rattle.wavelet_tree_tests.proofs.lists.narrow_tree_of.Goals as goal

pub from_integers-requires-clause-small : goal.from_integers-requires-clause-small
from_integers-requires-clause-small g c = λ k d inside.
    let within : k < length c.args.numbers.now = omega (arith, inside, length-map c.args.numbers.now (λ (x : ℕ). x)) in
    omega (arith, get_or-map (λ (x : ℕ). x) c.args.numbers.now k 0 d within, c.are_narrow.ensures c.if-not-are_narrow.false k 0 within)
