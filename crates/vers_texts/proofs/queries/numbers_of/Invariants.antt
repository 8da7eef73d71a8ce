use Rattle.std.proofs.Common.{◌≡◌, take}
use Rattle.vers_texts.proofs.queries.numbers_of.Given as goal

abbrev pub invariant-loop-position : goal.invariant-loop-position
invariant-loop-position g l = l.numbers.items ≡ take l.position-index l.positions
