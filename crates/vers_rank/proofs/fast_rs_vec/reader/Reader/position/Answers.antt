use Rattle.vers_rank.proofs.Names.{count_le, length, ap, arith}
use Rattle.vers_rank.proofs.Reading.{lowest_at, lowest_fits, rest_at}
use Rattle.vers_rank.proofs.fast_rs_vec.reader.Reader.position.Goals as goal

pub overflow_add-self : goal.overflow_add-self
overflow_add-self g c = omega (arith, c.seek.ensures.next, c.requires.some, c.bits.invariant.bounded, ap length c.bits.view_is, (count_le c.args.bit c.args.bits.now (length c.args.bits.now)).1)

pub overflow_mul-result : goal.overflow_mul-result
overflow_mul-result g c = omega (arith, lowest_fits c.seek.ensures.next c.requires.some c.seek.ensures.reading c.seek.ensures.some c.bits.invariant.bounded c.bits.view_is)

pub overflow_add-result : goal.overflow_add-result
overflow_add-result g c = omega (arith, lowest_fits c.seek.ensures.next c.requires.some c.seek.ensures.reading c.seek.ensures.some c.bits.invariant.bounded c.bits.view_is)

pub returns : goal.returns
returns g c = record {
  reading = rest_at c.seek.ensures.next c.requires.some c.seek.ensures.reading c.seek.ensures.some;
  value = lowest_at c.seek.ensures.next c.requires.some c.seek.ensures.reading c.seek.ensures.some;
  adds = c.seek.ensures.adds;
}
