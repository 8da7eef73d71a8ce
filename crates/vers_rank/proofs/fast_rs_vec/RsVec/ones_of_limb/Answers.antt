use Rattle.vers_rank.proofs.Names.{arith}
use Rattle.vers_rank.proofs.Ranks.{limb_of_block, limb_whole}
use Rattle.vers_rank.proofs.fast_rs_vec.RsVec.ones_of_limb.Goals as goal

pub returns-clause-value : goal.returns-clause-value
returns-clause-value g c =
    rw (limb_of_block c.args.self.now c.args.block c.args.limbs.now c.args.k c.requires.limbs c.requires.within.0 c.requires.within.1) (omega (arith, limb_whole c.args.self.now c.args.k))
