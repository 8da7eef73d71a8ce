use Rattle.vers_sorted.proofs.Names.{arith, changed_on, changed_all, adds_times, element_reads}
use Rattle.vers_sorted.proofs.elias_fano.EliasFanoVec.get_each_counted.Goals as goal

pub loop-from-preserved : goal.loop-from-preserved
loop-from-preserved g c = record {
  within = omega arith;
  changed = changed_on c.loop-from.invariant.changed c.get_group.ensures.value;
  adds = adds_times _ _ (element_reads c.args.self.now) c.loop-from.invariant.adds c.get_group.ensures.adds;
}

pub returns-clause-value : goal.returns-clause-value
returns-clause-value g c = changed_all c.loop-from.invariant.changed (omega arith)
