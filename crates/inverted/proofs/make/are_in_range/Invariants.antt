use Rattle.std.proofs.Common.{◌≡◌, length}
use Rattle.std.specs.List.{list_all}
use Rattle.inverted.specs.Makers.{is_in_range}
use Rattle.inverted.proofs.make.are_in_range.Given as goal

abbrev pub invariant-loop-pair : goal.invariant-loop-pair
invariant-loop-pair g l =
    list_all (is_in_range l.terms l.universe) (g.P.Pairs.left l.fn.pairs) ≡ list_all (is_in_range l.terms l.universe) (g.P.Pairs.left l.pairs)

abbrev pub decreases-loop-pair : goal.decreases-loop-pair
decreases-loop-pair g l = length (g.P.Pairs.left l.pairs)
