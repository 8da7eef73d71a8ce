use Rattle.vers_sorted.proofs.Names.{arith, length-take}
use Rattle.vers_sorted.proofs.Orders.{no_faults}
use Rattle.vers_sorted.proofs.order.is_in_order.Goals as goal

pub returns : goal.returns
returns g c = no_faults _ c.args.numbers.now c.loop-i.i c.loop-i.faults (grind (arith, length-take)) c.loop-i.invariant.none c.loop-i.invariant.some
