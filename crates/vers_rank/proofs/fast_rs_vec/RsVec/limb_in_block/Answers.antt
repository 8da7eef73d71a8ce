use Rattle.vers_rank.proofs.Names.{◌*◌, arith}
use Rattle.vers_rank.proofs.Selects.{rest_in_limb, held_is}
use Rattle.vers_rank.proofs.fast_rs_vec.RsVec.limb_in_block.Goals as goal

pub returns-clause-counted : goal.returns-clause-counted
returns-clause-counted g c =
    let found = c.limb_with-found.ensures.found in
    omega (arith, found.counted, found.from, held_is c.args.bit c.args.self.now (512 * c.args.block) (omega arith))

pub returns-clause-few : goal.returns-clause-few
returns-clause-few g c = grind (arith, rest_in_limb)
