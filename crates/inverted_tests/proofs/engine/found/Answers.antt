use Rattle.std.specs.Prelude.{◌&&◌, IfOk, not}
use Rattle.sets.specs.Sets.{IsSetOf}
use Rattle.vers_sorted.specs.Sorted.{is_element}
use Rattle.inverted.specs.Lists.{list_of}
use Rattle.inverted_tests.proofs.engine.found.Goals as goal

pub returns : goal.returns
returns c =
    let made : IfOk c.collect.result (IsSetOf (λ document. (is_element (list_of c.new.result.index c.new.result.term) document
    && is_element (list_of c.new-2.result.index c.new-2.result.term) document)
    && not (is_element (list_of c.new-3.result.index c.new-3.result.term) document))) = c.collect.ensures in
    rw (c.new.ensures.value, c.new-2.ensures.value, c.new-3.ensures.value) at made
