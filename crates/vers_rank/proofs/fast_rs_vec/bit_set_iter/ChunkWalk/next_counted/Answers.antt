use Rattle.std.proofs.Common.{◌≤◌, length, ap, arith}
use Rattle.vers_rank.proofs.Chunks.{offset_passed, offset_gave, offset_inside, chunk_ended, chunk_reads_then}
use Rattle.vers_rank.proofs.fast_rs_vec.bit_set_iter.ChunkWalk.next_counted.Goals as goal

pub returns-then-self-len-clause-steps : goal.returns-then-self-len-clause-steps
returns-then-self-len-clause-steps g c = chunk_ended c.args.bits.now c.loop-self.self c.loop-self.invariant.0 _ (omega arith) (omega arith) c.loop-self.invariant.1

pub overflow_add-result : goal.overflow_add-result
overflow_add-result g c =
    let bounded : length c.args.bits.now ≤ 18446744073709551552 = omega (arith, c.bits.invariant.bounded, ap length c.bits.view_is) in
    omega (arith, bounded, offset_inside c.args.bits.now c.loop-self.self c.loop-self.invariant.0 (omega arith))

pub returns-clause-walk : goal.returns-clause-walk
returns-clause-walk g c = offset_passed c.args.bits.now c.loop-self.self c.loop-self.invariant.0 (omega arith)

pub returns-clause-steps : goal.returns-clause-steps
returns-clause-steps g c = offset_gave c.args.bits.now c.loop-self.self c.loop-self.invariant.0 (omega arith) _ c.loop-self.invariant.1

pub loop-self-preserved : goal.loop-self-preserved
loop-self-preserved g c = grind (arith, chunk_reads_then)
