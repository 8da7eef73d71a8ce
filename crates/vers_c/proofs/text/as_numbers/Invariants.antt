use Rattle.vers_c.proofs.Names.{take}
use Rattle.std.proofs.Common.{◌≡◌}
use Rattle.vers_c.proofs.text.as_numbers.Given as goal

abbrev pub invariant-loop-position : goal.invariant-loop-position
invariant-loop-position l = l.numbers.items ≡ take l.position-index l.positions
