use Rattle.vers_c.proofs.Names.{map, true, false, map-map, select}
use Rattle.std.proofs.Common.{◌∙◌, ap}
use Rattle.catalogue.specs.declared.answer.Answer.TheVariants.{Found}
use Rattle.vers_c.proofs.batch.bits.SelectsBatchRsVecGlobalUsize.ask_all.Goals as goal

pub returns-in-true-true : goal.returns-in-true-true
returns-in-true-true c = rw c.in-true-true.is-1 (ap (map Found) c.select_run.ensures ∙ map-map Found (select true c.args.bits.now) c.args.numbers.now)

pub returns-in-true-false : goal.returns-in-true-false
returns-in-true-false c = rw c.in-true-false.is-1 (ap (map Found) c.select_run-in-true-false.ensures ∙ map-map Found (select false c.args.bits.now) c.args.numbers.now)

pub returns-in-false-true : goal.returns-in-false-true
returns-in-false-true c = rw c.in-false-true.is-1 (ap (map Found) c.select1_each.ensures ∙ map-map Found (select true c.args.bits.now) c.args.numbers.now)

pub returns-in-false-false : goal.returns-in-false-false
returns-in-false-false c = rw c.in-false-false.is-1 (ap (map Found) c.select0_each.ensures ∙ map-map Found (select false c.args.bits.now) c.args.numbers.now)
