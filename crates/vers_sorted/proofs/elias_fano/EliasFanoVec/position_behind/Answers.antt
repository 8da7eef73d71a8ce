use Rattle.vers_sorted.proofs.Names.{arith}
use Rattle.vers_sorted.proofs.Behinds.{read_behind}
use Rattle.vers_sorted.proofs.elias_fano.EliasFanoVec.position_behind.Goals as goal

pub returns-clause-behind : goal.returns-clause-behind
returns-clause-behind g c =
    let packed = rw c.self.view_is at c.self.invariant in
    read_behind c.args.i c.select1_counted-position.result _ _ c.unwrap_or-behind.result c.get_bits_counted.result packed c.requires.within c.select1_counted-position.ensures.value
    (omega (arith, c.min-len.ensures)) c.get_bits_counted.ensures.value c.unwrap_or-behind.ensures
