use Rattle.vers_rmq.proofs.Names.{◌-◌, ◌*◌, get_or, refl, arith}
use Rattle.vers_rmq.proofs.Blocks.{block_is, add_block}
use Rattle.vers_rmq.proofs.rmq.fast_rmq.block.add_block.Goals as goal

pub returns : goal.returns
returns g c =
    add_block c.args.items.now c.args.b (c.block_masks-least.result.1 - 128 * c.args.b) (get_or c.args.items.now c.block_masks-least.result.1 0) c.block_masks-least.result.0
    c.args.blocks.now.minima.items c.args.blocks.now.positions.items _ _ c.args.blocks.now.masks.items _ c.requires.before
    (block_is c.args.items.now c.args.b c.min-end.result c.block_masks-least.result.1 (get_or c.args.items.now c.block_masks-least.result.1 0) c.block_masks-least.result.0
    (omega (arith, c.min-end.ensures)) c.block_masks-least.ensures.whole c.block_masks-least.ensures.parts c.block_masks-least.ensures.least refl)
    c.in_ok-push.ensures.items c.in_ok-push-2.ensures.items c.in_ok-push-3.ensures.items
