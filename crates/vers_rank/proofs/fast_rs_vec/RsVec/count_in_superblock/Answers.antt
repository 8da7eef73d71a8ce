use Rattle.vers_rank.proofs.Names.{◌+◌, ◌*◌, arith, count_near}
use Rattle.vers_rank.proofs.Ranks.{block_entry}
use Rattle.vers_rank.proofs.fast_rs_vec.RsVec.count_in_superblock.Goals as goal

pub overflow_sub-result : goal.overflow_sub-result
overflow_sub-result g c = grind (arith, block_entry)

pub returns-then-bit-clause-value : goal.returns-then-bit-clause-value
returns-then-bit-clause-value g c =
    let index = rw c.self.view_is at c.self.invariant in
    let entry = block_entry (16 * c.args.s + c.args.j) c.args.s index c.requires.within (omega arith) in
    rw c.if-bit.true (omega (arith, entry.0, entry.1, entry.2, c.read-zeros.ensures.value))

pub returns-else-bit-clause-few : goal.returns-else-bit-clause-few
returns-else-bit-clause-few g c = grind (arith, block_entry, count_near)
