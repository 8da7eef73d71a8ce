use Rattle.std.proofs.Common.{length, nat_le}
use Rattle.std.specs.Prelude.{◌&&◌}
use Rattle.sets.specs.Sets.{in_both}
use Rattle.vers_sorted.specs.Sorted.{is_element}
use Rattle.sets.proofs.ManyLists.{both_in_turn, least_steps, ok_numbers_same}
use Rattle.sets.proofs.operations.intersection_numbers_counted.Goals as goal

pub returns-clause-value : goal.returns-clause-value
returns-clause-value g c =
    let one = c.args.one.now in
    let other = c.args.other.now in
    ok_numbers_same (λ found. found.items) c.numbers_of_counted.result (λ x. is_element c.new.result x && is_element c.new-2.result x) (in_both one other)
    (λ x. rw (c.new.ensures, c.new-2.ensures) (both_in_turn (nat_le (length one) (length other)) one other _ _ c.by_length.ensures.shorter c.by_length.ensures.longer x)) c.numbers_of_counted.ensures.value

pub returns-clause-adds : goal.returns-clause-adds
returns-clause-adds g c =
    least_steps c.args.one.now c.args.other.now _ _ c.by_length.ensures.shorter c.by_length.ensures.longer (rw (c.new.ensures, c.new-2.ensures) at c.numbers_of_counted.ensures.adds)
