use Rattle.word_rank.proofs.Names.{arith}
use Rattle.word_rank.proofs.Counts.{add_word, near_word}
use Rattle.word_rank.proofs.build.add_count.Goals as goal

pub returns-clause-counts : goal.returns-clause-counts
returns-clause-counts g c = grind (arith, add_word, near_word)

pub overflow_sub-ones : goal.overflow_sub-ones
overflow_sub-ones g c = omega (arith, c.requires.base (omega arith), (near_word c.args.bits.now c.args.word).0)

pub overflow_cast-ones : goal.overflow_cast-ones
overflow_cast-ones g c = omega (arith, c.requires.base (omega arith), (near_word c.args.bits.now c.args.word).1)
