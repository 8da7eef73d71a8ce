use Rattle.vers_sorted.proofs.Aheads.{read_maybe}
use Rattle.vers_sorted.proofs.elias_fano.EliasFanoVec.position_ahead.Goals as goal

pub returns-clause-ahead : goal.returns-clause-ahead
returns-clause-ahead g c =
    let packed = rw c.self.view_is at c.self.invariant in
    read_maybe c.args.i c.select1_counted-position.result _ c.unwrap_or-ahead.result c.get_bits_counted.result packed c.requires.within c.select1_counted-position.ensures.value
    c.get_bits_counted.ensures.value c.unwrap_or-ahead.ensures
