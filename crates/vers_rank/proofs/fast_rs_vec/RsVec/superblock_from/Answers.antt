use Rattle.vers_rank.proofs.Names.{arith, rules, adds_then, digits_up}
use Rattle.vers_rank.proofs.fast_rs_vec.RsVec.superblock_from.Goals as goal

pub loop-step-preserved : goal.loop-step-preserved
loop-step-preserved g c = record {
  some = omega (arith, c.if-step-n.false);
  from = grind (arith, c.count_at_superblock.ensures.value);
  adds = adds_then c.loop-step.invariant.adds c.count_at_superblock.ensures.adds (search rules);
}

pub returns-clause-adds : goal.returns-clause-adds
returns-clause-adds g c = grind (arith, adds_then, digits_up)
