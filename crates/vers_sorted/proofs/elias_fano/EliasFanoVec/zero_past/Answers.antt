use Rattle.vers_sorted.proofs.Packed.{high_same}
use Rattle.vers_sorted.proofs.elias_fano.EliasFanoVec.zero_past.Goals as goal

pub zero_after-requires-clause-position : goal.zero_after-requires-clause-position
zero_after-requires-clause-position g c =
    let packed = rw c.self.view_is at c.self.invariant in
    rw (c.high_number.ensures.value, high_same packed) c.requires.before

pub returns-clause-value : goal.returns-clause-value
returns-clause-value g c =
    let packed = rw c.self.view_is at c.self.invariant in
    rw (c.high_number.ensures.value, high_same packed) at c.zero_after.ensures.value
