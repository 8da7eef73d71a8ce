use Rattle.std.proofs.Common.{◌≡◌, map, take}
use Rattle.sets.proofs.operations.cursors_of.Given as goal

abbrev pub invariant-loop-i : goal.invariant-loop-i
invariant-loop-i g l = l.cursors.items ≡ map (λ list. list.now) (take l.i l.lists)
