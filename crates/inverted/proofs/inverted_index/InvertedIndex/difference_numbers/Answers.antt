use Rattle.std.proofs.Common.{◌∷◌, ap, map}
use Rattle.std.specs.Prelude.{◌&&◌, IfOk, not}
use Rattle.std.specs.List.{list_any}
use Rattle.sets.specs.Sets.{IsSetOf, in_difference_of}
use Rattle.vers_sorted.specs.Sorted.{is_element}
use Rattle.inverted.specs.Lists.{list_of, searched_term}
use Rattle.inverted.proofs.Sets.{any_has, difference_below, exact, no_others, ok_same}
use Rattle.inverted.proofs.inverted_index.InvertedIndex.difference_numbers.Goals as goal

pub returns : goal.returns
returns g c =
    let index = c.args.self.now in
    let second = c.in-Some.second.now in
    let first = searched_term c.new-2.result in
    let rest = c.in-Some.rest.now in
    let has = in_difference_of (list_of index c.args.first) (map (list_of index) c.args.others.now) in
    let set : IfOk c.numbers_of-2.result (λ found. IsSetOf has found.items) =
    ok_same (λ found. found.items) c.numbers_of-2.result
    (λ x. first.has x && not (list_any (λ one. one.has x) (searched_term c.new-3.result ∷ map searched_term c.in_ok-others.others.items))) has
    (λ x. rw (c.new-2.ensures.value, c.new-3.ensures.value, c.in_ok-others.ensures, c.in-Some.ensures.cases.0) (ap (λ b. is_element (list_of index c.args.first) x && not b) (any_has index (second ∷ rest) x))) c.numbers_of-2.ensures in
    record {
      value = exact (λ found. found.items) c.numbers_of-2.result index has (difference_below index c.new-2.ensures.below c.args.first c.args.others.now) set;
      set = set;
    }

pub returns-in_default-clause-set : goal.returns-in_default-clause-set
returns-in_default-clause-set g c =
    let index = c.args.self.now in
    ok_same (λ found. found.items) c.numbers_of.result (is_element (list_of c.new.result.index c.new.result.term)) (in_difference_of (list_of index c.args.first) (map (list_of index) c.args.others.now))
    (λ x. rw (c.new.ensures.value) (no_others index (list_of index c.args.first) c.args.others.now x c.in_default.ensures.cases)) c.numbers_of.ensures

pub returns-in_default-clause-value : goal.returns-in_default-clause-value
returns-in_default-clause-value g c =
    let index = c.args.self.now in
    exact (λ found. found.items) c.numbers_of.result index (in_difference_of (list_of index c.args.first) (map (list_of index) c.args.others.now)) (difference_below index c.new.ensures.below c.args.first c.args.others.now)
    (returns-in_default-clause-set g c)
