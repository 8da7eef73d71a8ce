use Rattle.vers_sorted.proofs.Names.{arith}
use Rattle.vers_sorted.proofs.Packed.{size_is}
use Rattle.vers_sorted.proofs.elias_fano.EliasFanoVec.heap_size.Goals as goal

pub returns : goal.returns
returns g c =
    let packed = rw c.self.view_is at c.self.invariant in
    omega (arith, size_is packed, c.heap_size.ensures, c.len-2.ensures, c.div_ceil.ensures)
