use Rattle.std.proofs.Common.{map, refl}
use Rattle.std.specs.Prelude.{◌&&◌}
use Rattle.std.specs.List.{list_all}
use Rattle.sets.specs.Sets.{in_all}
use Rattle.vers_sorted.specs.Sorted.{is_element}
use Rattle.sets.specs.Sources.{searched_list}
use Rattle.sets.proofs.ManyLists.{all_has, all_reads, ok_numbers_same}
use Rattle.sets.proofs.operations.intersection_of_numbers_counted.Goals as goal

pub returns-clause-value : goal.returns-clause-value
returns-clause-value g c =
    let others = map (λ list. list.now) c.args.others.now in
    ok_numbers_same (λ found. found.items) c.numbers_of_counted.result (λ x. is_element c.new.result x && list_all (λ one. one.has x) (map searched_list c.in_ok-others.others.items)) (in_all c.args.first.now others)
    (λ x. rw (c.new.ensures, c.in_ok-others.ensures, all_has others x) refl) c.numbers_of_counted.ensures.value

pub returns-clause-adds : goal.returns-clause-adds
returns-clause-adds g c = rw (c.new.ensures, c.in_ok-others.ensures, all_reads (map (λ list. list.now) c.args.others.now)) at c.numbers_of_counted.ensures.adds
