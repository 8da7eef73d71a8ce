use Rattle.vers_rank.proofs.Names.{◌≡◌, ◌*◌, ◌/◌, arith}
use Rattle.vers_rank.proofs.Ranks.{count_at, limb_of_block, limb_part}
use Rattle.vers_rank.proofs.fast_rs_vec.RsVec.ones_by_limbs.Goals as goal

pub returns : goal.returns
returns g c =
    let word = limb_of_block c.args.self.now (c.args.position / 512) c.args.limbs.now (c.args.position / 64) c.requires (omega arith) (omega arith) in
    let part = rw word at c.ones_of_part.ensures.value in
    let end : 64 * c.loop-k.k ≡ 64 * (c.args.position / 64) = omega (arith, c.loop-k-test.false, c.loop-k.auto.k-end) in
    omega (arith, part, limb_part c.args.self.now c.args.position, c.loop-k.invariant.counted, count_at c.args.self.now (64 * c.loop-k.k) (64 * (c.args.position / 64)) end)
