use Rattle.vers_trees.proofs.Names.{◌*◌, ◌%◌, pos, ◌-ℤ◌, count_ones, bit_or, w64, to_z, of_z, arith, ints}
use Rattle.vers_trees.proofs.searches.WordScans.{covered_few, fits_small, zeros_fit, zeros_is, less_fits, less_is, falls_counted}
use Rattle.vers_trees.proofs.trees.bp.scan.stays_above.Goals as goal

pub overflow_cast-falls : goal.overflow_cast-falls
overflow_cast-falls c = grind (arith, ints, covered_few, fits_small)

pub overflow_sub-falls : goal.overflow_sub-falls
overflow_sub-falls c = zeros_fit _ (covered_few c.args.word c.ranges.word.fits)

pub overflow_sub-result : goal.overflow_sub-result
overflow_sub-result c = grind (arith, ints, covered_few, zeros_is, less_fits)

pub returns : goal.returns
returns c = λ t bits long is.
    let n = count_ones (bit_or c.args.word (c.args.word * 2 % 18446744073709551616)) in let h = covered_few c.args.word c.ranges.word.fits in
    let z = zeros_is n h in
    let k = less_is c.args.target c.args.rise (to_z w64 (of_z w64 (pos 64 -ℤ to_z w64 n))) c.ranges.target c.ranges.rise c.requires (omega (arith, ints)) (omega (arith, ints)) t in
    let f = falls_counted bits c.args.word long is in omega (arith, ints)
