use Rattle.vers_saved.proofs.Names.{refl}
use Rattle.vers_saved.proofs.SortedParts.{high_padded_own, list_tested, low_padded_own, none_of_list, parts_own, words_decoded}
use Rattle.vers_saved.proofs.parts.are_of_list.Goals as goal

pub returns-in_default : goal.returns-in_default
returns-in_default g c = none_of_list c.args.rising (g.W.Words.words c.args.words.now) (λ m up is. c.in_default.ensures.none refl m is)

pub returns-in_default-bits_at : goal.returns-in_default-bits_at
returns-in_default-bits_at g c =
    none_of_list c.args.rising (g.W.Words.words c.args.words.now) (λ m up is.
    c.in_default-bits_at.ensures.none refl
    (low_padded_own m (g.W.Words.words c.args.words.now) c.in-Some.head.ends.len c.in-Some.head.ends.first c.in-Some.head.ends.last c.in-Some.head.lengths.low c.in-Some.head.lengths.high is c.in-Some.ensures.some))

pub returns-in_default-bits_at-2 : goal.returns-in_default-bits_at-2
returns-in_default-bits_at-2 g c =
    none_of_list c.args.rising (g.W.Words.words c.args.words.now) (λ m up is.
    (rw c.div_ceil-from.ensures at c.in_default-bits_at-2.ensures.none) refl
    (high_padded_own m (g.W.Words.words c.args.words.now) c.in-Some.head.ends.len c.in-Some.head.ends.first c.in-Some.head.ends.last c.in-Some.head.lengths.low c.in-Some.head.lengths.high is c.in-Some.ensures.some))

pub returns : goal.returns
returns g c =
    let ws = g.W.Words.words c.args.words.now in
    let head = c.in-Some.head in
    let lows = c.in-Some-bits_at.ensures.some in
    let highs = rw c.div_ceil-from.ensures at c.in-Some-bits_at-2.ensures.some in
    let high_padded = rw c.div_ceil-from.ensures at c.in-Some-bits_at-2.ensures.padded in
    list_tested c.args.rising c.are_parts.result ws
    (λ h. let m = c.are_parts.ensures.yes h in
    (m.0, m.1, words_decoded m.0 ws head.ends.len head.ends.first head.ends.last head.lengths.low head.lengths.high c.requires.fit c.in-Some.ensures.some c.in-Some-bits_at.ensures.padded high_padded (rw (lows, highs) at m.2)))
    (λ f m up is. c.are_parts.ensures.no f m up
    (rw (lows, highs) (parts_own m ws head.ends.len head.ends.first head.ends.last head.lengths.low head.lengths.high is c.in-Some.ensures.some)))
