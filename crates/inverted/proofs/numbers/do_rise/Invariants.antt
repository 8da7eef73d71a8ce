use Rattle.std.proofs.Common.{◌≡◌, ◌∷◌, length}
use Rattle.std.specs.Prelude.{nat_lt}
use Rattle.vers_sorted.specs.Sorted.{each_next}
use Rattle.inverted.proofs.numbers.do_rise.Given as goal

abbrev pub invariant-loop-number : goal.invariant-loop-number
invariant-loop-number g l = each_next nat_lt l.fn.numbers ≡ each_next nat_lt (l.last ∷ l.others.left)

abbrev pub decreases-loop-number : goal.decreases-loop-number
decreases-loop-number g l = length l.others.left
