use Rattle.std.proofs.Common.{◌≡◌, ◌++◌, take}
use Rattle.vers_uses.proofs.levels.take_steps.Given as goal

abbrev pub invariant-loop-enters : goal.invariant-loop-enters
invariant-loop-enters g l = g.B.TreeBuilder.steps l.builder ≡ g.B.TreeBuilder.steps l.initial.builder ++ take l.enters-index l.steps
