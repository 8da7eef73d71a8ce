use Rattle.vers_sorted.proofs.Names.{arith}
use Rattle.vers_sorted.proofs.Makes.{low_width_is}
use Rattle.vers_sorted.proofs.Packed.{packed_as}
use Rattle.vers_sorted.proofs.elias_fano.EliasFanoVec.from_numbers.Goals as goal

pub invariant_of-result : goal.invariant_of-result
invariant_of-result g c =
    let s = g.N.Numbers.left c.args.numbers in
    let width = low_width_is s _ _ _ _ c.first_of-first.ensures.value c.requires.last c.requires.len c.width_of-width.ensures.value in
    let packed = packed_as s _ _ _ c.requires.ascending c.first_of-first.ensures.value c.requires.last (omega arith) width c.width_of-width.ensures.narrow in
    rw (c.requires.len, c.in_ok-from_bit_vec.ensures, c.new.ensures, c.in_ok-parts.ensures.high, c.in_ok-parts.ensures.low) packed.1

pub returns : goal.returns
returns g c =
    let s = g.N.Numbers.left c.args.numbers in
    let width = low_width_is s _ _ _ _ c.first_of-first.ensures.value c.requires.last c.requires.len c.width_of-width.ensures.value in
    let packed = packed_as s _ _ _ c.requires.ascending c.first_of-first.ensures.value c.requires.last (omega arith) width c.width_of-width.ensures.narrow in
    rw (c.requires.len, c.in_ok-from_bit_vec.ensures, c.new.ensures, c.in_ok-parts.ensures.high, c.in_ok-parts.ensures.low) packed.0
