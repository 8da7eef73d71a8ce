use Rattle.vers_saved.proofs.Names.{ap, arith, length}
use Rattle.vers_saved.proofs.SortedForms.{sorted_fit}
use Rattle.vers_saved.proofs.SortedParts.{length-sorted}
use Rattle.vers_saved.proofs.parts.count_list.Goals as goal

pub returns-clause-count : goal.returns-clause-count
returns-clause-count g c =
    omega (arith, length-sorted c.args.list.now, c.div_ceil.ensures, c.div_ceil-2.ensures, c.len-2.ensures.value, c.len-3.ensures.value, ap length c.low_parts.ensures, ap length c.high_parts.ensures)

pub returns-clause-small : goal.returns-clause-small
returns-clause-small g c = omega (arith, c.div_ceil.ensures, c.div_ceil-2.ensures, c.len-2.ensures.bounded, c.len-3.ensures.bounded)

pub returns-clause-fit : goal.returns-clause-fit
returns-clause-fit g c = sorted_fit c.args.list.now (omega (arith, c.len.ensures.value)) (omega (arith, c.ends-ends.ensures.first)) (omega (arith, c.ends-ends.ensures.last))
