use Rattle.std.proofs.Common.{◌∷◌, ap, map}
use Rattle.std.specs.Prelude.{◌||◌, IfOk}
use Rattle.std.specs.List.{list_any}
use Rattle.sets.specs.Sets.{IsSetOf, in_any}
use Rattle.vers_sorted.specs.Sorted.{is_element}
use Rattle.inverted.specs.Lists.{list_of, searched_term}
use Rattle.inverted.proofs.Sets.{any_below, any_has, exact, ok_same}
use Rattle.inverted.proofs.inverted_index.InvertedIndex.union_numbers.Goals as goal

pub returns : goal.returns
returns g c =
    let index = c.args.self.now in
    let has = in_any (list_of index c.args.first ∷ map (list_of index) c.args.others.now) in
    let set : IfOk c.numbers_of.result (λ found. IsSetOf has found.items) =
    ok_same (λ found. found.items) c.numbers_of.result (λ x. list_any (λ one. one.has x) (searched_term c.new.result ∷ map searched_term c.in_ok-others.others.items)) has
    (λ x. rw (c.new.ensures.value, c.in_ok-others.ensures) (ap (λ b. is_element (list_of index c.args.first) x || b) (any_has index c.args.others.now x))) c.numbers_of.ensures in
    record {
      value = exact (λ found. found.items) c.numbers_of.result index has (any_below index c.new.ensures.below (c.args.first ∷ c.args.others.now)) set;
      set = set;
    }
