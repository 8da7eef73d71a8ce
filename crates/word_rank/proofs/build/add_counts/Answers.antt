use Rattle.word_rank.proofs.Names.{true, arith, sym, count_none, count_le}
use Rattle.word_rank.proofs.build.add_counts.Goals as goal

pub loop-word-init : goal.loop-word-init
loop-word-init g c = record {
  counts = rw (c.requires.words, c.requires.superblocks) (grind arith);
  ones = sym (count_none true c.args.bits.now);
  base = λ h. absurd (omega arith);
}

pub overflow_add-ones : goal.overflow_add-ones
overflow_add-ones g c = omega (arith, count_le)
