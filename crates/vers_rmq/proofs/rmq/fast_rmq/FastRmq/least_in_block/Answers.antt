use Rattle.vers_rmq.proofs.Names.{◌+◌, ◌*◌, ◌/◌, ◌≤◌, refl, rules, arith}
use Rattle.vers_rmq.proofs.Blocks.{part_more, part_end_with}
use Rattle.vers_rmq.proofs.rmq.fast_rmq.FastRmq.least_in_block.Goals as goal

pub loop-part-preserved : goal.loop-part-preserved
loop-part-preserved g c = record {
  best = part_more c.self.inside.items c.args.self.now c.args.i c.loop-part.part (16 * c.loop-part.part + 15) c.part_prefix_position.result c.loop-part.least c.read_at-here.result c.lesser_of-least.result
      c.self.view_is (omega arith) refl c.loop-part.invariant.best c.part_prefix_position.ensures.value c.read_at-here.ensures.at c.read_at-here.ensures.item c.lesser_of-least.ensures;
  adds = search rules;
}

pub returns-clause-value : goal.returns-clause-value
returns-clause-value g c =
    let end : c.loop-part.part ≤ c.args.j / 16 = c.loop-part.auto.part-end (omega arith) in
    (part_end_with c.self.inside.items c.args.self.now c.args.i c.loop-part.part c.args.j c.part_prefix_position-2.result c.loop-part.least c.read_at-here-2.result c.lesser_of.result
    c.self.view_is (omega arith) (omega arith) c.loop-part.invariant.best c.part_prefix_position-2.ensures.value c.read_at-here-2.ensures.at c.read_at-here-2.ensures.item c.lesser_of.ensures).position
