use Rattle.vers_sorted.proofs.Packed.{high_same}
use Rattle.vers_sorted.proofs.elias_fano.EliasFanoVec.bucket_of.Goals as goal

pub bucket_between-requires-clause-before : goal.bucket_between-requires-clause-before
bucket_between-requires-clause-before g c =
    let packed = rw c.self.view_is at c.self.invariant in
    rw (c.high_number.ensures.value, high_same packed) at c.select0_pair_counted-zeros.ensures.first

pub bucket_between-requires-clause-after : goal.bucket_between-requires-clause-after
bucket_between-requires-clause-after g c =
    let packed = rw c.self.view_is at c.self.invariant in
    rw (c.high_number.ensures.value, high_same packed) at c.select0_pair_counted-zeros.ensures.second
