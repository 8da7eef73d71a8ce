use Rattle.vers_rank.proofs.Names.{arith, length, superblock_count, select_reads}
use Rattle.vers_rank.proofs.PublicLaws.{changed_on, changed_all, adds_times}
use Rattle.vers_rank.proofs.fast_rs_vec.RsVec.select_each.Goals as goal

pub loop-from-preserved : goal.loop-from-preserved
loop-from-preserved g c = record {
  within = omega arith;
  changed = changed_on c.loop-from.invariant.changed c.levels_each.ensures.value;
  adds = adds_times _ _ (select_reads (superblock_count (length c.args.self.now))) c.loop-from.invariant.adds c.levels_each.ensures.adds;
}

pub returns-clause-value : goal.returns-clause-value
returns-clause-value g c = changed_all c.loop-from.invariant.changed (omega arith)
