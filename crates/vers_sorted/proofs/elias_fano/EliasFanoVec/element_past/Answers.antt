use Rattle.vers_sorted.proofs.Names.{arith}
use Rattle.vers_sorted.proofs.Besides.{ones_past}
use Rattle.vers_sorted.proofs.elias_fano.EliasFanoVec.element_past.Goals as goal

pub overflow_add-bucket : goal.overflow_add-bucket
overflow_add-bucket g c =
    let packed = rw c.self.view_is at c.self.invariant in
    omega (arith, (ones_past packed c.args.v c.args.bucket c.requires.from c.requires.to c.requires.bucket c.requires.more).0, c.len.ensures.value, c.len.ensures.bounded)

pub overflow_add-bucket-2 : goal.overflow_add-bucket-2
overflow_add-bucket-2 g c =
    let packed = rw c.self.view_is at c.self.invariant in
    omega (arith, (ones_past packed c.args.v c.args.bucket c.requires.from c.requires.to c.requires.bucket c.requires.more).0, c.len.ensures.value, c.len.ensures.bounded)
