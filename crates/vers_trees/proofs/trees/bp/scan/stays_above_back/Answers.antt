use Rattle.vers_trees.proofs.Names.{◌/◌, ◌+◌, count_ones, bit_and, w64, to_z, arith, ints}
use Rattle.vers_trees.proofs.searches.WordScans.{rises_few, count_is, less_is, rises_counted}
use Rattle.vers_trees.proofs.trees.bp.scan.stays_above_back.Goals as goal

pub returns : goal.returns
returns c = λ t bits long is.
    let n = count_ones (bit_and c.args.word (c.args.word / 2 + 9223372036854775808)) in let r = rises_counted bits c.args.word long is in
    let f = rises_few bits in let z = count_is n (omega arith) in
    let k = less_is c.args.target c.args.rise (to_z w64 n) c.ranges.target c.ranges.rise c.requires (omega (arith, ints)) (omega (arith, ints)) t in
    omega (arith, ints)
