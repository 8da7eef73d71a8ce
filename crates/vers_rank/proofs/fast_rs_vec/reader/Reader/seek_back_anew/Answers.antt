use Rattle.std.proofs.Common.{◌≡◌, ◌+◌, ◌-◌, arith, rules}
use Rattle.vers_rank.proofs.ReadingBack.{new_back}
use Rattle.vers_rank.proofs.fast_rs_vec.reader.Reader.seek_back_anew.Goals as goal

pub returns : goal.returns
returns g c =
    let at = c.locate-at.ensures in
    let number : c.args.end - 1 + 1 ≡ c.args.end = omega (arith, c.requires.some) in
    let found = rw number at (new_back c.args.bit c.args.bits.now (c.args.end - 1) _ _ _ (omega (arith, c.requires.within, c.requires.some)) at.value at.within.1 c.count_at_block-edge.ensures.value) in
    rw (c.marks.ensures, at.word) (record { reading = found.0; next = search rules; some = found.1; adds = search rules })
