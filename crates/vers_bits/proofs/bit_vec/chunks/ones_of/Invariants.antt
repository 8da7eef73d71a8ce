use Rattle.vers_bits.proofs.Names.{◌≡◌, ◌+◌, take, drop, sum_by, count_ones}
use Rattle.vers_bits.proofs.bit_vec.chunks.ones_of.Given as goal

abbrev pub invariant-loop-chunk : goal.invariant-loop-chunk
invariant-loop-chunk l = l.ones ≡ sum_by (sum_by count_ones) (take l.chunk-index l.chunks)

abbrev pub invariant-loop-word : goal.invariant-loop-word
invariant-loop-word l = l.ones + sum_by count_ones (drop l.word-index l.end) ≡ sum_by count_ones l.words
