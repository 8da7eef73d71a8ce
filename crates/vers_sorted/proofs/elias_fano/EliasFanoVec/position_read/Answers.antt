use Rattle.vers_sorted.proofs.Names.{refl, arith}
use Rattle.vers_sorted.proofs.Aheads.{step_position, step_read}
use Rattle.vers_sorted.proofs.Passes.{read_within}
use Rattle.vers_sorted.proofs.elias_fano.EliasFanoVec.position_read.Goals as goal

pub returns-clause-within : goal.returns-clause-within
returns-clause-within g c =
    let packed = rw c.self.view_is at c.self.invariant in
    read_within c.args.self.now c.args.i c.args.ahead.now packed.ascending c.requires.read c.requires.some

pub returns-clause-value : goal.returns-clause-value
returns-clause-value g c =
    let packed = rw c.self.view_is at c.self.invariant in
    omega (arith, step_position c.args.self.now c.args.i c.args.ahead.now packed.ascending c.requires.read c.requires.some (read_within c.args.self.now c.args.i c.args.ahead.now packed.ascending c.requires.read c.requires.some))

pub returns-clause-read : goal.returns-clause-read
returns-clause-read g c =
    let packed = rw c.self.view_is at c.self.invariant in
    step_read c.args.self.now c.args.i c.args.ahead.now packed.ascending c.requires.read c.requires.some _ refl refl refl
