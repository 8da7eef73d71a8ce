use Rattle.vers_saved.proofs.Names.{arith, refl}
use Rattle.vers_saved.proofs.SortedParts.{decoded_counts}
use Rattle.vers_saved.proofs.parts.ends_of.Goals as goal

pub returns-in_err-lengths-clause-none : goal.returns-in_err-lengths-clause-none
returns-in_err-lengths-clause-none g c = λ none s is.
    let counts = decoded_counts s (g.W.Words.words c.args.words.now) c.word.result c.word-2.result c.word-3.result is c.word.ensures c.word-2.ensures c.word-3.ensures in
    c.in_err-lengths.ensures.none refl (omega (arith, counts.0, counts.2, c.requires.count, c.requires.small)) (omega (arith, counts.1, counts.2, c.requires.count, c.requires.small))

pub returns-then-count-div_ceil-clause-none : goal.returns-then-count-div_ceil-clause-none
returns-then-count-div_ceil-clause-none g c = λ none s is.
    let counts = decoded_counts s (g.W.Words.words c.args.words.now) c.word.result c.word-2.result c.word-3.result is c.word.ensures c.word-2.ensures c.word-3.ensures in
    omega (arith, counts.0, counts.1, counts.2, c.in_ok-lengths.ensures.low, c.in_ok-lengths.ensures.high, c.div_ceil.ensures, c.div_ceil-2.ensures, c.if-count-div_ceil.true, c.requires.count)
