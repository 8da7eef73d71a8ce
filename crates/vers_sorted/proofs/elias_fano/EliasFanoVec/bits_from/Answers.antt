use Rattle.vers_sorted.proofs.Names.{sym, arith}
use Rattle.vers_sorted.proofs.Passes.{position_within, bits_read}
use Rattle.vers_sorted.proofs.elias_fano.EliasFanoVec.bits_from.Goals as goal

pub overflow_sub-len : goal.overflow_sub-len
overflow_sub-len g c =
    let packed = rw c.self.view_is at c.self.invariant in
    omega (arith, position_within packed c.args.position c.requires.within)

pub returns-in-Some-clause-read : goal.returns-in-Some-clause-read
returns-in-Some-clause-read g c =
    let packed = rw c.self.view_is at c.self.invariant in
    bits_read packed c.args.next c.args.position c.min-len.result c.in-Some.word c.requires.next (sym c.in-Some.ensures.value)
