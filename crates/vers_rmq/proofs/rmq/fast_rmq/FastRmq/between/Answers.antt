use Rattle.vers_rmq.proofs.Names.{◌≡◌, ◌+◌, ◌*◌, ◌<◌, ap, arith, get_or, get_or_read, length, refl}
use Rattle.vers_rmq.proofs.Blocks.{between}
use Rattle.vers_rmq.proofs.PublicLaws.{as_first}
use Rattle.vers_rmq.proofs.rmq.fast_rmq.FastRmq.between.Goals as goal

pub returns-clause-value : goal.returns-clause-value
returns-clause-value g c =
    let least = as_first _ _ _ _ c.requires.order c.range_min_item_counted-least.ensures.position in
    let inside : c.range_min_item_counted-least.result.position < length c.self.inside.positions.items = omega (arith, least.to, c.self.invariant.blocks.positions_counted, c.requires, ap length c.self.view_is) in
    let position : c.index.result.now ≡ get_or c.self.inside.positions.items c.range_min_item_counted-least.result.position 0 = get_or_read _ _ _ inside c.index.ensures 0 in
    between c.self.inside.items c.args.self.now c.self.inside.minima c.self.inside.positions.items c.self.inside.masks.items c.args.a c.args.c c.range_min_item_counted-least.result
    (record { position = 128 * c.range_min_item_counted-least.result.position + c.index.result.now; value = c.range_min_item_counted-least.result.value })
    c.self.invariant c.self.view_is c.requires.within (record { position = least; item = c.range_min_item_counted-least.ensures.item })
    (ap (λ p. 128 * c.range_min_item_counted-least.result.position + p) position) refl
