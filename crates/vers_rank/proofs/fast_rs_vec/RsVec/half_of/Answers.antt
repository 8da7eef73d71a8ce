use Rattle.vers_rank.proofs.Selects.{half_of}
use Rattle.vers_rank.proofs.fast_rs_vec.RsVec.half_of.Goals as goal

pub returns-then-before-r : goal.returns-then-before-r
returns-then-before-r g c =
    rw c.held_of.ensures ((half_of c.args.bit c.args.self.now c.args.block c.args.r c.args.n c.args.all.limb c.args.all.before c.args.ones c.requires.all c.requires.ones c.requires.few).0 (rw c.held_of.ensures at c.if-before-r.true))

pub returns-else-before-r : goal.returns-else-before-r
returns-else-before-r g c =
    (half_of c.args.bit c.args.self.now c.args.block c.args.r c.args.n c.args.all.limb c.args.all.before c.args.ones c.requires.all c.requires.ones c.requires.few).1 (rw c.held_of.ensures at c.if-before-r.false)
