use Rattle.vers_rank.proofs.Names.{length, ap, arith, count_le}
use Rattle.vers_rank.proofs.ReadingBack.{rest_back_at}
use Rattle.vers_rank.proofs.fast_rs_vec.reader.Reader.position_back.Goals as goal

pub overflow_add-r : goal.overflow_add-r
overflow_add-r g c = omega (arith, c.bits.invariant.bounded, ap length c.bits.view_is, c.requires.some, (count_le c.args.bit c.args.bits.now (length c.args.bits.now)).1)

pub returns-clause-reading : goal.returns-clause-reading
returns-clause-reading g c = rest_back_at c.args.bit c.args.bits.now c.seek_back.new.self c.args.r c.seek_back.ensures.next c.requires.some c.seek_back.ensures.reading c.seek_back.ensures.some
