use Rattle.vers_sorted.proofs.Names.{◌∙◌, adds_then, ap, arith, Some, sym}
use Rattle.vers_sorted.proofs.Below.{below_from}
use Rattle.vers_sorted.proofs.Passes.{lesser_below, succ_found}
use Rattle.vers_sorted.proofs.elias_fano.EliasFanoVec.successor_read.Goals as goal

pub returns-then-element-v-clause-some : goal.returns-then-element-v-clause-some
returns-then-element-v-clause-some g c =
    let is = c.with_low_part-element.ensures.value in
    let found = succ_found c.args.self.now c.args.v c.loop-passed.passed.next c.high_number-high.ensures.ascending c.position_read.ensures.within c.loop-passed.invariant.passed.few (omega (arith, is, c.if-element-v.true)) in
    found.0 ∙ ap Some (sym is)

pub returns-then-parts-eq-PARTS-clause-none : goal.returns-then-parts-eq-PARTS-clause-none
returns-then-parts-eq-PARTS-clause-none g c = record {
  few = below_from c.args.self.now c.args.v c.loop-passed.passed.next c.high_number-high.ensures.ascending c.position_read.ensures.within (omega (arith, c.with_low_part-element.ensures.value, c.if-element-v.false));
  read = c.position_read.ensures.read;
}

pub loop-passed-preserved-else-parts-eq-PARTS : goal.loop-passed-preserved-else-parts-eq-PARTS
loop-passed-preserved-else-parts-eq-PARTS g c = record {
  high_is = c.high_number-high.ensures.value;
  passed = record {
    few = below_from c.args.self.now c.args.v c.loop-passed.passed.next c.high_number-high.ensures.ascending c.position_read.ensures.within (omega (arith, c.with_low_part-element.ensures.value, c.if-element-v.false));
    read = c.position_read.ensures.read;
  };
  few = omega arith;
  adds = adds_then c.loop-passed.invariant.adds c.with_low_part-element.ensures.adds (grind arith);
}

pub loop-passed-preserved : goal.loop-passed-preserved
loop-passed-preserved g c = record {
  high_is = c.high_number-high.ensures.value;
  passed = record {
    few = lesser_below c.args.self.now c.args.v c.loop-passed.passed.next c.high_number-high.ensures.ascending c.requires.from c.position_read.ensures.within (omega (arith, c.position_read.ensures.value, c.high_number-high.ensures.value, c.if-part-high.false));
    read = c.position_read.ensures.read;
  };
  few = c.loop-passed.invariant.few;
  adds = c.loop-passed.invariant.adds;
}
