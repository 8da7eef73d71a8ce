use Rattle.vers_trees.proofs.Names.{◌+◌, arith}
use Rattle.vers_trees.proofs.searches.PartNodes.{next_fits, more_so_far, byte_small}
use Rattle.vers_trees.proofs.trees.bp.scan.node_of.Goals as goal

-- ---- the next 64 positions
pub node_of_word-requires : goal.node_of_word-requires
node_of_word-requires g c = (c.args.bits.now, c.loop-start.start, c.requires.short, record { within = omega arith; valued = c.get_bits_unchecked-word.ensures })

pub followed_by-node-requires : goal.followed_by-node-requires
followed_by-node-requires g c =
    let s = c.loop-start.start in
    let next = c.node_of_word.ensures c.args.bits.now s (record { within = omega arith; valued = c.get_bits_unchecked-word.ensures }) in
    next_fits c.args.bits.now c.args.from s (s + 64) _ _ c.loop-start.invariant.part next c.requires.short (omega arith) (omega arith)

pub loop-start-preserved : goal.loop-start-preserved
loop-start-preserved g c =
    let s = c.loop-start.start in
    let next = c.node_of_word.ensures c.args.bits.now s (record { within = omega arith; valued = c.get_bits_unchecked-word.ensures }) in
    record {
      low = omega arith;
      high = omega arith;
      part = more_so_far c.args.bits.now c.args.from s (s + 64) _ _ _ c.loop-start.invariant.part next c.followed_by-node.ensures;
    }

-- ---- the next eight
pub overflow_cast-byte : goal.overflow_cast-byte
overflow_cast-byte g c = record { fits = byte_small c.args.bits.now c.loop-start-2.start _ (record { within = omega arith; valued = c.get_bits_unchecked-byte.ensures }) }

pub followed_by-node-requires-in-loop-start-2 : goal.followed_by-node-requires-in-loop-start-2
followed_by-node-requires-in-loop-start-2 g c =
    let s = c.loop-start-2.start in
    let next = c.node_of_byte.ensures c.args.bits.now s (record { within = omega arith; valued = c.get_bits_unchecked-byte.ensures }) in
    next_fits c.args.bits.now c.args.from s (s + 8) _ _ c.loop-start-2.invariant.part next c.requires.short (omega arith) (omega arith)

pub loop-start-2-preserved : goal.loop-start-2-preserved
loop-start-2-preserved g c =
    let s = c.loop-start-2.start in
    let next = c.node_of_byte.ensures c.args.bits.now s (record { within = omega arith; valued = c.get_bits_unchecked-byte.ensures }) in
    record {
      low = omega arith;
      high = omega arith;
      part = more_so_far c.args.bits.now c.args.from s (s + 8) _ _ _ c.loop-start-2.invariant.part next c.followed_by-node-in-loop-start-2.ensures;
    }

-- ---- the next one
pub followed_by-node-requires-in-loop-position : goal.followed_by-node-requires-in-loop-position
followed_by-node-requires-in-loop-position g c =
    let p = c.loop-position.position in
    let next = c.node_of_bit.ensures c.args.bits.now p (omega arith) c.is_bit_set_unchecked.ensures in
    next_fits c.args.bits.now c.args.from p (p + 1) _ _ c.loop-position.invariant next c.requires.short (omega arith) (omega arith)

pub loop-position-preserved : goal.loop-position-preserved
loop-position-preserved g c =
    let p = c.loop-position.position in
    let next = c.node_of_bit.ensures c.args.bits.now p (omega arith) c.is_bit_set_unchecked.ensures in
    more_so_far c.args.bits.now c.args.from p (p + 1) _ _ _ c.loop-position.invariant next c.followed_by-node-in-loop-position.ensures
