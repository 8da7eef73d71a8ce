use Rattle.vers_sorted.proofs.Names.{refl, arith}
use Rattle.vers_sorted.proofs.Behinds.{back_position, back_read}
use Rattle.vers_sorted.proofs.elias_fano.EliasFanoVec.position_read_behind.Goals as goal

pub returns-clause-value : goal.returns-clause-value
returns-clause-value g c =
    let packed = rw c.self.view_is at c.self.invariant in
    back_position c.args.self.now c.args.i c.args.behind.now packed.ascending c.requires.read c.requires.some c.requires.within

pub returns-clause-read : goal.returns-clause-read
returns-clause-read g c =
    let packed = rw c.self.view_is at c.self.invariant in
    back_read c.args.self.now c.args.i c.args.behind.now packed.ascending c.requires.read c.requires.some _ refl refl refl
