use Rattle.vers_rank.proofs.Names.{ℕ, ◌+◌, ◌*◌, ◌/◌, refl, arith}
use Rattle.vers_rank.proofs.Batches.{inside_by, narrows}
use Rattle.vers_rank.proofs.fast_rs_vec.batch.BlockLevel.lead.Goals as goal

pub overflow_add-result-2 : goal.overflow_add-result-2
overflow_add-result-2 g c =
    let block : ℕ = 16 * (c.args.position / 8192) + c.block_with-found.result.block in
    omega (arith, inside_by c.args.bit c.args.bits.now (512 * block) c.block_with-found.result.rest (512 * (block + 1)) (omega arith) (omega (arith, c.block_with-found.ensures.counted, c.block_with-found.ensures.to)), c.len-len.ensures.value, c.len-len.ensures.bounded)

pub returns-clause-value : goal.returns-clause-value
returns-clause-value g c =
    let block : ℕ = 16 * (c.args.position / 8192) + c.block_with-found.result.block in
    let few = inside_by c.args.bit c.args.bits.now (512 * block) c.block_with-found.result.rest (512 * (block + 1)) (omega arith) (omega (arith, c.block_with-found.ensures.counted, c.block_with-found.ensures.to)) in
    narrows 8192 512 c.args.bit c.args.bits.now c.args.position block c.block_with-found.result.rest _
    (omega (arith, c.if-position-len.false, c.len-len.ensures.value)) refl (omega arith) (omega arith) c.block_with-found.ensures.counted c.block_with-found.ensures.to
