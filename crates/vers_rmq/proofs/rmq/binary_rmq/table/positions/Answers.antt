use Rattle.vers_rmq.proofs.Names.{◌+◌, length, arith, ap, length_push}
use Rattle.vers_rmq.proofs.Tables.{add_position, level_zero, table_is}
use Rattle.vers_rmq.proofs.rmq.binary_rmq.table.positions.Goals as goal

pub loop-i-preserved : goal.loop-i-preserved
loop-i-preserved g c = record {
  counted = omega (arith, ap length c.in_ok-push.ensures.items, length_push c.loop-i.table.items c.loop-i.i, c.loop-i.invariant.counted);
  positions = add_position c.args.items.now c.loop-i.table.items c.push.new.self.items 0 c.loop-i.i c.loop-i.i c.loop-i.invariant.positions c.loop-i.invariant.counted c.loop-i-test.true (level_zero c.args.items.now c.loop-i.i c.loop-i-test.true) c.in_ok-push.ensures.items;
}

pub loop-j-preserved : goal.loop-j-preserved
loop-j-preserved g c = record {
  counted = omega (arith, ap length c.in_ok-push-2.ensures.items, length_push c.loop-j.table.items c.next_position-position.result, c.loop-j.invariant.counted);
  positions = add_position c.args.items.now c.loop-j.table.items _ (c.levels.k + 1) c.loop-j.j _ c.loop-j.invariant.positions c.loop-j.invariant.counted c.loop-j-test.true c.next_position-position.ensures c.in_ok-push-2.ensures.items;
}

pub returns : goal.returns
returns g c = table_is c.args.items.now c.levels.table.items c.levels.k c.requires c.levels.invariant.positions c.levels.invariant.counted (omega (arith, c.levels-test.false)) c.levels.invariant.width
