use Rattle.vers_cli.proofs.Names.{◌≡◌}
use Rattle.vers_cli.proofs.lists.positions_left.Given as goal

abbrev pub invariant-loop-position : goal.invariant-loop-position
invariant-loop-position g l = l.numbers.items ≡ l.yielded
