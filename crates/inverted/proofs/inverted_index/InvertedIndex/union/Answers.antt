use Rattle.std.specs.Prelude.{IfOk}
use Rattle.sets.specs.Sets.{IsSetOf, in_either}
use Rattle.inverted.specs.Lists.{list_of}
use Rattle.inverted.proofs.inverted_index.InvertedIndex.union.Goals as goal

pub returns : goal.returns
returns g c =
    let found : IfOk c.collect.result (IsSetOf (in_either (list_of c.new.result.index c.new.result.term) (list_of c.new-2.result.index c.new-2.result.term))) = c.collect.ensures in
    rw (c.new.ensures.value, c.new-2.ensures.value) at found
