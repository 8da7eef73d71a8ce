use Rattle.vers_cli.proofs.Names.{◌≡◌, ◌∷◌, Some, true, refl, sym, ◌∙◌, ap, nat_lt, list_all, words_in, all_numbers, each_next-ascending, each_next-rising, ones_at-same, first_numbers, Accepted, SparseBits}
use Rattle.vers_cli.proofs.Rises.{all_below, all_are_below, rising_ascends}
use Rattle.vers_cli.proofs.sparse.load.Goals as goal

pub elements_of-requires-clause-ascending : goal.elements_of-requires-clause-ascending
elements_of-requires-clause-ascending g c =
    let ones = first_numbers (words_in c.in-Some.positions.now) in
    (each_next-ascending ones).0 (rising_ascends ones c.in-Some-rise_of.ensures.order)

pub from_sorted-requires-clause-rising : goal.from_sorted-requires-clause-rising
from_sorted-requires-clause-rising g c =
    rw c.in-Ok.ensures ((each_next-rising (first_numbers (words_in c.in-Some.positions.now))).0 c.in-Some-rise_of.ensures.order)

pub from_sorted-requires-clause-within : goal.from_sorted-requires-clause-within
from_sorted-requires-clause-within g c =
    let ones = first_numbers (words_in c.in-Some.positions.now) in
    let told = c.in-Some-rise_of.ensures in
    let below : list_all (λ position. nat_lt position c.in-Some-number.len) ones ≡ true =
    sym (all_below c.in-Some-number.len c.in-Some-rise_of.rise.last c.in-Some-rise_of.rise.len ones told.order told.len told.last) ∙ sym c.is_below.ensures ∙ c.if-not-is_below.false in
    rw c.in-Ok.ensures (all_are_below c.in-Some-number.len ones below)

pub returns-in-Ok : goal.returns-in-Ok
returns-in-Ok g c =
    let ones = first_numbers (words_in c.in-Some.positions.now) in
    let told = c.in-Some-rise_of.ensures in
    let below : list_all (λ position. nat_lt position c.in-Some-number.len) ones ≡ true =
    sym (all_below c.in-Some-number.len c.in-Some-rise_of.rise.last c.in-Some-rise_of.rise.len ones told.order told.len told.last) ∙ sym c.is_below.ensures ∙ c.if-not-is_below.false in
    let numbers : all_numbers (words_in c.args.arguments.now) ≡ Some (c.in-Some-number.len ∷ ones) =
    rw (c.in-Some.ensures.words, ← c.number.ensures, c.in-Some-number.is, told.all) refl in
    rw (numbers, told.order, below) (ap (λ bits. Accepted (SparseBits bits)) (ones_at-same c.from_sorted.result c.in-Some-number.len ones c.from_sorted.ensures.length (c.from_sorted.ensures.positions ∙ c.in-Ok.ensures)))
