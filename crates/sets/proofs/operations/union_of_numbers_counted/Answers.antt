use Rattle.std.proofs.Common.{◌∷◌, map}
use Rattle.std.specs.List.{list_any}
use Rattle.sets.specs.Sets.{in_any}
use Rattle.sets.specs.Sources.{searched_list}
use Rattle.sets.proofs.ManyLists.{all_reads, any_has, ok_numbers_same, steps_with}
use Rattle.sets.proofs.operations.union_of_numbers_counted.Goals as goal

pub returns-clause-value : goal.returns-clause-value
returns-clause-value g c =
    let others = map (λ list. list.now) c.args.others.now in
    ok_numbers_same (λ found. found.items) c.numbers_of_counted.result (λ x. list_any (λ one. one.has x) (searched_list c.new.result ∷ map searched_list c.in_ok-others.others.items)) (in_any (c.args.first.now ∷ others))
    (λ x. rw (c.new.ensures, c.in_ok-others.ensures) (any_has (c.args.first.now ∷ others) x)) c.numbers_of_counted.ensures.value

pub returns-clause-adds : goal.returns-clause-adds
returns-clause-adds g c =
    rw (c.new.ensures, c.in_ok-others.ensures, all_reads (map (λ list. list.now) c.args.others.now), steps_with (λ list. list.now) c.args.first.now c.args.others.now) at c.numbers_of_counted.ensures.adds
