use Rattle.vers_rank.proofs.Names.{◌+◌, ◌*◌, ◌/◌, ◌%◌, arith, length, cases_lt, count, count_le_all}
use Rattle.vers_rank.proofs.Batches.{ends, few_in_limb}
use Rattle.vers_rank.proofs.fast_rs_vec.batch.PositionLevel.lead.Goals as goal

pub returns-then-position-len-clause-value : goal.returns-then-position-len-clause-value
returns-then-position-len-clause-value g c = ends 64 c.args.bit c.args.bits.now c.args.position (omega (arith, c.if-position-len.true, c.len.ensures.value))

pub position_in_limb-at-requires-clause-few : goal.position_in_limb-at-requires-clause-few
position_in_limb-at-requires-clause-few g c = (few_in_limb c.args.bit c.args.bits.now (c.args.position / 64) (c.args.position % 64) (omega arith) (c.requires (omega arith))).1

pub position_in_limb-at-requires-clause-some : goal.position_in_limb-at-requires-clause-some
position_in_limb-at-requires-clause-some g c =
    let start = (few_in_limb c.args.bit c.args.bits.now (c.args.position / 64) (c.args.position % 64) (omega arith) (c.requires (omega arith))).0 in
    omega (arith, start, c.requires (omega arith), count_le_all c.args.bit c.args.bits.now (64 * (c.args.position / 64 + 1)))

pub returns-clause-value : goal.returns-clause-value
returns-clause-value g c = λ r is.
    let start = (few_in_limb c.args.bit c.args.bits.now (c.args.position / 64) (c.args.position % 64) (omega arith) (c.requires (omega arith))).0 in
    grind (arith, is, start, cases_lt r (count c.args.bit c.args.bits.now (length c.args.bits.now)), c.position_in_limb-at.ensures.value)
