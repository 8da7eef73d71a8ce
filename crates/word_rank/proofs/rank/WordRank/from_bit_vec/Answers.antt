use Rattle.word_rank.proofs.Names.{arith}
use Rattle.word_rank.proofs.rank.WordRank.from_bit_vec.Goals as goal

pub invariant_of-result : goal.invariant_of-result
invariant_of-result g c =
    rw (c.new.ensures, c.new-2.ensures, c.new-3.ensures)
    (record { bounded = omega (arith, c.len.ensures.value, c.len.ensures.bounded); counts = c.in_ok-add_counts.ensures })
