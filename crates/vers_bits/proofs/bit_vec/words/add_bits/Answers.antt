use Rattle.vers_bits.proofs.Names.{◌∷◌, [], ◌<◌, ◌-◌, ◌/◌, ◌%◌, ◌^◌, length, arith, get_or_append_left}
use Rattle.vers_bits.proofs.Holds.{added_across, added_word}
use Rattle.vers_bits.proofs.bit_vec.words.add_bits.Goals as goal

pub returns-then-used-eq0-clause-grown : goal.returns-then-used-eq0-clause-grown
returns-then-used-eq0-clause-grown g c = grind (arith, added_word)

pub returns-clause-grown : goal.returns-clause-grown
returns-clause-grown g c =
    let words = c.args.words.now.items in
    let within : c.args.len / 64 < length words = omega (arith, c.requires.held.counted) in
    let last = get_or_append_left words (c.args.bits / 2 ^ (64 - c.args.len % 64) ∷ []) 0 (c.args.len / 64) within in
    rw (c.or_into.ensures, c.in_ok-push_word.ensures.pushed, last)
    (added_across words _ _ _ c.requires.held c.requires.small (omega arith) (omega arith) c.requires.few c.requires.short)
