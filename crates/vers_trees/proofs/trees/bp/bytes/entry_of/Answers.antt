use Rattle.vers_trees.proofs.searches.Bytes.{IsNoted, met_nothing, sevens, met_more, few_more, up_or_down}
use Rattle.vers_trees.proofs.Names.{length-set, ints, arith, refl, ◌∙◌}
use Rattle.vers_trees.proofs.trees.bp.bytes.entry_of.Goals as goal

pub loop-step-init : goal.loop-step-init
loop-step-init c = record {
  met = λ bits is. met_nothing c.args.from_end bits _ (sevens 17);
  low = omega arith;
  high = omega arith;
  least = omega arith;
  greatest = omega arith;
  many = refl;
  few = λ x. let e = sevens 17 x in omega arith;
}

pub loop-step-preserved : goal.loop-step-preserved
loop-step-preserved c =
    let i = c.loop-step.invariant in let m = c.meet.ensures in
    let u = up_or_down c.args.from_end _ c.loop-step.value c.stepped-value.result c.stepped-value.ensures in
    let w : IsNoted c.loop-step.met.least c.loop-step.met.greatest c.stepped-value.result c.position_of-position.result c.loop-step.met.positions c.meet.new.self.least c.meet.new.self.greatest c.meet.new.self.positions = record { lower = m.least; upper = m.greatest; again = m.again; first = m.first } in
    record {
      met = λ bits is. met_more c.args.from_end bits c.args.byte c.loop-step.step c.loop-step.value c.loop-step.met.least c.loop-step.met.greatest c.stepped-value.result c.position_of-position.result c.loop-step.met.positions _ _ _ is (omega arith) (i.met bits is) c.position_of-position.ensures c.stepped-value.ensures (omega arith) w;
      low = omega arith;
      high = omega arith;
      least = omega arith;
      greatest = omega arith;
      many = (grind (arith, ints, length-set)) ∙ i.many;
      few = few_more _ _ _ _ c.loop-step.met.positions _ _ _ w (omega arith) (rw c.position_of-position.ensures (grind arith)) i.few;
    }
