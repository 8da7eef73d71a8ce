use Rattle.vers_rank.proofs.Names.{◌/◌, arith}
use Rattle.vers_rank.proofs.Ranks.{limb_of_block, limb_part}
use Rattle.vers_rank.proofs.fast_rs_vec.RsVec.ones_in_block.Goals as goal

pub returns : goal.returns
returns g c =
    let word = limb_of_block c.args.self.now (c.args.position / 512) c.args.limbs.now (c.args.position / 64) c.requires (omega arith) (omega arith) in
    let part = rw word at c.ones_of_part.ensures.value in
    omega (arith, part, limb_part c.args.self.now c.args.position, c.ones_before_half-half.ensures.value, c.ones_before_quarter-quarter.ensures.value, c.ones_before_limb-limb.ensures.value)
