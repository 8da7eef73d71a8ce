use Rattle.std.specs.Prelude.{IfOk, nat_le, length}
use Rattle.sets.specs.Sets.{IsSetOf, in_both}
use Rattle.inverted.specs.Lists.{list_of}
use Rattle.inverted.proofs.Sets.{in_order, ok_same}
use Rattle.inverted.proofs.inverted_index.InvertedIndex.intersection.Goals as goal

pub returns : goal.returns
returns g c =
    let index = c.args.self.now in
    let one = list_of index c.args.one in
    let other = list_of index c.args.other in
    let found : IfOk c.collect.result (IsSetOf (in_both (list_of c.new.result.index c.new.result.term) (list_of c.new-2.result.index c.new-2.result.term))) = c.collect.ensures in
    ok_same (λ xs. xs) c.collect.result _ (in_both one other) (in_order index c.args.one c.args.other (nat_le (length one) (length other)))
    (rw (c.new.ensures.value, c.new-2.ensures.value, c.rarer_first-rarer.ensures.rarer, c.rarer_first-rarer.ensures.commoner) at found)
