use Rattle.vers_rank.proofs.Names.{arith}
use Rattle.vers_rank.proofs.Builds.{index_is}
use Rattle.vers_rank.proofs.fast_rs_vec.RsVec.from_bit_vec.Goals as goal

pub invariant_of-result : goal.invariant_of-result
invariant_of-result g c =
    rw (c.new.ensures, c.new-2.ensures, c.new-3.ensures, c.new-4.ensures, c.new-5.ensures)
    (index_is _ _ _ _ _ _ _ (omega (arith, c.len.ensures.value, c.len.ensures.bounded)) c.in_ok-zeros.ensures.entries c.in_ok-zeros.ensures.zeros
    c.in_ok-zero_samples.ensures c.in_ok-one_samples.ensures (omega (arith, c.max.ensures, c.len.ensures.value)))

pub samples-requires : goal.samples-requires
samples-requires g c =
    let made = c.in_ok-zeros.ensures.entries in
    rw c.deref.ensures.value (record { counted = omega (arith, made.superblocks_counted); entries = made.superblock_at })

pub samples-requires-2 : goal.samples-requires-2
samples-requires-2 g c =
    let made = c.in_ok-zeros.ensures.entries in
    rw c.deref-2.ensures.value (record { counted = omega (arith, made.superblocks_counted); entries = made.superblock_at })

pub returns : goal.returns
returns g c = c.new.ensures
