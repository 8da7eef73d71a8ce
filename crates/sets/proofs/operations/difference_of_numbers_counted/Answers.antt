use Rattle.std.proofs.Common.{◌∷◌, ap, map}
use Rattle.std.specs.Prelude.{◌&&◌, not}
use Rattle.std.specs.List.{list_any}
use Rattle.sets.specs.Sets.{in_difference_of}
use Rattle.vers_sorted.specs.Sorted.{is_element}
use Rattle.sets.specs.Sources.{searched_list}
use Rattle.sets.proofs.ManyLists.{all_reads, any_has, ok_numbers_same}
use Rattle.sets.proofs.operations.difference_of_numbers_counted.Goals as goal

pub returns-clause-value : goal.returns-clause-value
returns-clause-value g c =
    let second = c.in-Some.second.now.now in
    let rest = map (λ list. list.now) c.in-Some.rest.now in
    ok_numbers_same (λ found. found.items) c.numbers_of_counted-2.result
    (λ x. is_element c.new-2.result x && not (list_any (λ one. one.has x) (searched_list c.new-3.result ∷ map searched_list c.in_ok-others.others.items)))
    (in_difference_of c.args.first.now (map (λ list. list.now) c.args.others.now))
    (λ x. rw (c.new-2.ensures, c.new-3.ensures, c.in_ok-others.ensures, c.in-Some.ensures.cases.0) (ap (λ b. is_element c.args.first.now x && not b) (any_has (second ∷ rest) x))) c.numbers_of_counted-2.ensures.value

pub returns-clause-adds : goal.returns-clause-adds
returns-clause-adds g c =
    rw c.in-Some.ensures.cases.0 (rw (c.new-2.ensures, c.new-3.ensures, c.in_ok-others.ensures, all_reads (map (λ list. list.now) c.in-Some.rest.now)) at c.numbers_of_counted-2.ensures.adds)
