use Rattle.vers_sorted.proofs.Names.{◌∙◌, ap, arith, Some, sym}
use Rattle.vers_sorted.proofs.Below.{below_from}
use Rattle.vers_sorted.proofs.Passes.{succ_found}
use Rattle.vers_sorted.proofs.elias_fano.EliasFanoVec.successor_past.Goals as goal
use Rattle.vers_sorted.proofs.elias_fano.EliasFanoVec.successor_past.Goals.{then-passed-ne0+else-element-v, else-passed-ne0}

pub returns-then-element-v-clause-value : goal.returns-then-element-v-clause-value
returns-then-element-v-clause-value g c =
    let is = c.element_read-element.ensures.value in
    let found = succ_found c.args.self.now c.args.v c.args.passed.now.next c.len.ensures.ascending c.element_read-element.ensures.within c.requires.few (omega (arith, is, c.if-element-v.true)) in
    ap Some is ∙ sym found.0

pub successor_read-requires-clause-passed : goal.successor_read-requires-clause-passed
successor_read-requires-clause-passed g c = elim c.if-passed-ne0.branch [
  | then-passed-ne0+else-element-v w ↦ rw w.passed-is (record {
    few = omega (arith, w.element_read-element.ensures.next, below_from c.args.self.now c.args.v c.args.passed.now.next c.len.ensures.ascending w.element_read-element.ensures.within (omega (arith, w.element_read-element.ensures.value, w.if-element-v.false)));
    read = w.element_read-element.ensures.read;
  })
  | else-passed-ne0 w ↦ rw w.passed-is c.requires
]
