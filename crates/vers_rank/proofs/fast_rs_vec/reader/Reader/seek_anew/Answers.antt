use Rattle.std.proofs.Common.{rules}
use Rattle.vers_rank.proofs.Reading.{new_reading}
use Rattle.vers_rank.proofs.fast_rs_vec.reader.Reader.seek_anew.Goals as goal

pub returns : goal.returns
returns g c =
    let at = c.locate-at.ensures in
    let found = new_reading c.args.bit c.args.bits.now c.args.r _ _ _ c.requires.some at.value at.within.1 c.count_at_block-edge.ensures.value in
    rw (c.marks.ensures, at.word) (record { reading = found.0; next = search rules; some = found.1; adds = search rules })
