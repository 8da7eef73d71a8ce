use Rattle.std.proofs.Common.{rules, nat_lt, sym}
use Rattle.std.proofs.lemmas.Bool.{ltb-true}
use Rattle.std.proofs.lemmas.List.Sorted.{answers_always}
use Rattle.vers_sorted_tests.proofs.tests.bits.is_rising.Goals as goal

pub returns : goal.returns
returns c t k l =
    ltb-true _ _ (sym ((rw t at (c.is_sorted_by.ensures.cases nat_lt (search (rules, answers_always)))) k 0 l))
