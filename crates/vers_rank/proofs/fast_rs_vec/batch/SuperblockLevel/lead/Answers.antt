use Rattle.std.proofs.Common.{refl, arith}
use Rattle.vers_rank.proofs.Batches.{stands}
use Rattle.vers_rank.proofs.fast_rs_vec.batch.SuperblockLevel.lead.Goals as goal

pub returns-clause-value : goal.returns-clause-value
returns-clause-value g c =
    stands 8192 c.args.bit c.args.bits.now c.args.number c.superblock_with-s.result c.number_in.result _
    refl (omega (arith, c.number_in.ensures.small)) (omega (arith, c.number_in.ensures.small)) c.number_in.ensures.value c.superblock_with-s.ensures.to
