use Rattle.vers_rank.proofs.Names.{◌/◌, arith}
use Rattle.vers_rank.proofs.Ranks.{bit_of_limb, limb_of_block}
use Rattle.vers_rank.proofs.fast_rs_vec.RsVec.rank0_with_bit_counted.Goals as goal

pub returns-in-Some-clause-bit : goal.returns-in-Some-clause-bit
returns-in-Some-clause-bit g c =
    let limbs = rw c.self.view_is at c.in-Some.ensures.limbs in
    rw (limb_of_block c.args.self.now (c.args.position / 512) c.in-Some.limbs.now (c.args.position / 64) limbs (omega arith) (omega arith)) (bit_of_limb c.args.self.now c.args.position)
