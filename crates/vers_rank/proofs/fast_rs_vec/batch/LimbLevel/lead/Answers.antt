use Rattle.vers_rank.proofs.Names.{ℕ, ◌+◌, ◌*◌, ◌/◌, ◌<◌, refl, arith, length, number_of}
use Rattle.vers_rank.proofs.Batches.{inside_by, narrows, near_limb}
use Rattle.vers_rank.proofs.fast_rs_vec.batch.LimbLevel.lead.Goals as goal

pub overflow_add-result : goal.overflow_add-result
overflow_add-result g c =
    let at = c.limb_in_block-at.ensures in
    let inside : c.args.position < length c.args.bits.now = omega (arith, c.if-position-len.false, c.len-len.ensures.value) in
    let near = near_limb c.args.bit c.args.bits.now c.limb_in_block-at.result.limb c.limb_in_block-at.result.rest (number_of 512 c.args.bit c.args.bits.now c.args.position) (512 * (c.args.position / 512 + 1)) at.within at.counted at.few (c.requires inside) in
    omega (arith, inside_by c.args.bit c.args.bits.now (64 * c.limb_in_block-at.result.limb) c.limb_in_block-at.result.rest (64 * (c.limb_in_block-at.result.limb + 1)) (omega arith) (omega (arith, near.0, near.1)), c.len-len.ensures.value, c.len-len.ensures.bounded)

pub returns-clause-value : goal.returns-clause-value
returns-clause-value g c =
    let at = c.limb_in_block-at.ensures in
    let limb : ℕ = c.limb_in_block-at.result.limb in
    let inside : c.args.position < length c.args.bits.now = omega (arith, c.if-position-len.false, c.len-len.ensures.value) in
    let near = near_limb c.args.bit c.args.bits.now limb c.limb_in_block-at.result.rest (number_of 512 c.args.bit c.args.bits.now c.args.position) (512 * (c.args.position / 512 + 1)) at.within at.counted at.few (c.requires inside) in
    let few = inside_by c.args.bit c.args.bits.now (64 * limb) c.limb_in_block-at.result.rest (64 * (limb + 1)) (omega arith) (omega (arith, near.0, near.1)) in
    narrows 512 64 c.args.bit c.args.bits.now c.args.position limb c.limb_in_block-at.result.rest _ inside refl (omega arith) (omega arith) near.0 near.1
