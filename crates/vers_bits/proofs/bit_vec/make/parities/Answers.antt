use Rattle.vers_bits.proofs.Names.{map, drop, arith, length-map, length-drop}
use Rattle.vers_bits.proofs.Num.{bit_value_le}
use Rattle.vers_bits.proofs.Gather.{byte_value, number_below, number_from}
use Rattle.vers_bits.proofs.bit_vec.make.parities.Goals as goal

pub overflow_mul-word : goal.overflow_mul-word
overflow_mul-word g c =
    let small = number_below (map g.T.Item.is_odd (drop c.loop-position.position c.args.items.now)) 63 (simp (length-map, length-drop) (omega arith)) in
    omega (arith, c.loop-position.invariant)

pub overflow_add-word : goal.overflow_add-word
overflow_add-word g c =
    let small = number_below (map g.T.Item.is_odd (drop c.loop-position.position c.args.items.now)) 63 (simp (length-map, length-drop) (omega arith)) in
    omega (arith, c.loop-position.invariant, c.from.ensures, byte_value c.is_odd.result, bit_value_le c.is_odd.result)

pub loop-position-preserved : goal.loop-position-preserved
loop-position-preserved g c = grind (arith, byte_value, number_from)
