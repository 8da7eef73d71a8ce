use Rattle.vers_rank.proofs.Names.{◌≡◌, ◌/◌, ◌%◌, sym, arith, bit_and, count_ones, and_mask, ones-le, last_first, ones_below}
use Rattle.vers_rank.proofs.OffsetLanes.{both_listed, raised_long}
use Rattle.vers_rank.proofs.Words.{ones_few}
use Rattle.vers_rank.proofs.offsets.put_offsets.Goals as goal

pub put_lanes-requires-clause-long : goal.put_lanes-requires-clause-long
put_lanes-requires-clause-long c = raised_long c.offsets_in_byte.result c.offsets_in_byte.ensures.long

pub returns-clause-listed : goal.returns-clause-listed
returns-clause-listed c =
    let n = c.args.bits in
    let low : bit_and n 255 ≡ n % 256 = and_mask n 8 in
    let lows = c.offsets_in_byte-2.result in
    let low_listed : last_first 0 lows (count_ones (n % 256)) ≡ ones_below 8 (n % 256) = rw (sym low) c.offsets_in_byte-2.ensures.listed in
    rw (c.put_lanes-2.ensures, c.put_lanes.ensures, low)
    (both_listed c.args.offsets.now c.offsets_in_byte.result lows n (omega arith) c.offsets_in_byte.ensures.long c.offsets_in_byte-2.ensures.long c.offsets_in_byte.ensures.small c.offsets_in_byte.ensures.listed low_listed (ones-le 8 (n / 256) (omega arith)) (ones_few n 8))
