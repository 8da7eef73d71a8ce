use Rattle.vers_trees.proofs.Names.{rules, w64, arith, refl, ints, to_z-of_z}
use Rattle.vers_trees.proofs.trees.bp.bytes.position_met.Goals as goal

pub returns : goal.returns
returns c =
    let v = to_z-of_z w64 c.args.target c.ranges.target in let w = to_z-of_z w64 c.sum_at.result (search rules) in let x = to_z-of_z w64 c.sum_at-2.result (search rules) in
    (c.above-x.result, omega (arith, ints), omega (arith, ints), rw (to_z-of_z w64 c.args.rise c.ranges.rise, to_z-of_z w64 c.args.target c.ranges.target) at c.above-x.ensures, rw (← c.entry.view_is) refl)
