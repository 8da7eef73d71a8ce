use Rattle.vers_saved.proofs.Names.{arith, head}
use Rattle.vers_saved.proofs.Sums.{written_more, summed_more, written_all}
use Rattle.vers_saved.proofs.saved.append_saved.Goals as goal

pub loop-done-preserved : goal.loop-done-preserved
loop-done-preserved g c = record {
  written = rw (c.put_group-sum.ensures.items, c.loop-done.invariant.written)
      (written_more c.args.out.now.items (head g.S.Saved.kind.version g.S.Saved.kind.number c.args.shape.count c.args.shape.width) (g.S.Saved.words c.args.list.now) c.loop-done.done c.min-n.result);
  summed = rw (c.put_group-sum.ensures.sum, c.loop-done.invariant.summed)
      (summed_more (head g.S.Saved.kind.version g.S.Saved.kind.number c.args.shape.count c.args.shape.width) (g.S.Saved.words c.args.list.now) c.loop-done.done c.min-n.result);
  room = omega arith;
  within = omega arith;
}

pub returns-clause-saved : goal.returns-clause-saved
returns-clause-saved g c = grind (arith, written_all)
