use Rattle.std.proofs.Common.{◌≡◌, ◌∷◌, length}
use Rattle.inverted.specs.Makers.{do_ascend}
use Rattle.inverted.proofs.make.do_ascend.Given as goal

abbrev pub invariant-loop-pair : goal.invariant-loop-pair
invariant-loop-pair g l = do_ascend (g.P.Pairs.left l.fn.pairs) ≡ do_ascend (l.last ∷ g.P.Pairs.left l.pairs)

abbrev pub decreases-loop-pair : goal.decreases-loop-pair
decreases-loop-pair g l = length (g.P.Pairs.left l.pairs)
