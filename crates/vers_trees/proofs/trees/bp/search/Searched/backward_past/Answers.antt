use Rattle.vers_trees.proofs.Names.{true, arith, refl, ◌∙◌, sought}
use Rattle.vers_trees.proofs.searches.Finds.{answer_before, begins, ends_before, next_answer, none_next, none_far, climbed, climbed_and_scanned}
use Rattle.vers_trees.proofs.layout.Steps.{adds_none}
use Rattle.vers_trees.proofs.trees.bp.search.Searched.backward_past.Goals as goal

pub returns-in_err-left-clause-value : goal.returns-in_err-left-clause-value
returns-in_err-left-clause-value g c = c.from_residual.ensures ∙ none_far true _ _ _ _ _ c.requires _ (answer_before c.args.self.bits.now g.row.BLOCK_SIZE c.args.i c.args.r (c.requires.last refl)) c.ranges.r c.in_err-left.ensures

pub previous_block_counted-requires : goal.previous_block_counted-requires
previous_block_counted-requires g c = record { begins = (sought c.args.self.bits.now g.row.BLOCK_SIZE c.args.i c.args.r, begins true _ _ _ _ _ c.requires _ (answer_before c.args.self.bits.now g.row.BLOCK_SIZE c.args.i c.args.r (c.requires.last refl)) c.ranges.r c.in_ok-left.left c.in_ok-left.ensures) }

pub returns-in_err-previous-clause-value : goal.returns-in_err-previous-clause-value
returns-in_err-previous-clause-value g c =
    c.from_residual-in_err-previous.ensures ∙ none_next true _ _ _ _ _ c.requires _ (answer_before c.args.self.bits.now g.row.BLOCK_SIZE c.args.i c.args.r (c.requires.last refl)) c.ranges.r c.in_ok-left.left c.in_ok-left.ensures (let a = c.in_err-previous.ensures in a.value)

pub overflow_mul-start : goal.overflow_mul-start
overflow_mul-start g c = record { fits = omega (arith, ends_before _ c.in_ok-previous.previous _ ((let a = c.in_ok-previous.ensures in a.value) (sought c.args.self.bits.now g.row.BLOCK_SIZE c.args.i c.args.r) (begins true _ _ _ _ _ c.requires _ (answer_before c.args.self.bits.now g.row.BLOCK_SIZE c.args.i c.args.r (c.requires.last refl)) c.ranges.r c.in_ok-left.left c.in_ok-left.ensures))) }

pub overflow_add-end : goal.overflow_add-end
overflow_add-end g c = record { fits = omega (arith, ends_before _ c.in_ok-previous.previous _ ((let a = c.in_ok-previous.ensures in a.value) (sought c.args.self.bits.now g.row.BLOCK_SIZE c.args.i c.args.r) (begins true _ _ _ _ _ c.requires _ (answer_before c.args.self.bits.now g.row.BLOCK_SIZE c.args.i c.args.r (c.requires.last refl)) c.ranges.r c.in_ok-left.left c.in_ok-left.ensures))) }

pub returns-clause-value : goal.returns-clause-value
returns-clause-value g c =
    let h = ends_before _ c.in_ok-previous.previous _ ((let a = c.in_ok-previous.ensures in a.value) (sought c.args.self.bits.now g.row.BLOCK_SIZE c.args.i c.args.r) (begins true _ _ _ _ _ c.requires _ (answer_before c.args.self.bits.now g.row.BLOCK_SIZE c.args.i c.args.r (c.requires.last refl)) c.ranges.r c.in_ok-left.left c.in_ok-left.ensures)) in
    c.ok.ensures.value ∙ next_answer true _ _ _ _ _ c.requires _ (answer_before c.args.self.bits.now g.row.BLOCK_SIZE c.args.i c.args.r (c.requires.last refl)) c.ranges.r c.in_ok-left.left c.in_ok-left.ensures c.in_ok-previous.previous c.in_ok-previous.rest (let a = c.in_ok-previous.ensures in a.value) _ _ _ (omega arith) (omega arith) c.scan_backward.ensures.value

pub returns-in_err-left-clause-adds : goal.returns-in_err-left-clause-adds
returns-in_err-left-clause-adds g c = adds_none _ _

pub returns-in_err-previous-clause-adds : goal.returns-in_err-previous-clause-adds
returns-in_err-previous-clause-adds g c = climbed true _ _ _ _ _ c.requires _ _ c.previous_block_counted.ensures.adds

pub returns-clause-adds : goal.returns-clause-adds
returns-clause-adds g c =
    climbed_and_scanned true _ _ _ _ _ c.requires _ _ c.previous_block_counted.ensures.adds _ _ (omega arith) c.scan_backward.ensures.adds

pub scan_backward-requires-clause-inside : goal.scan_backward-requires-clause-inside
scan_backward-requires-clause-inside g c = omega (arith, ends_before _ c.in_ok-previous.previous _ ((let a = c.in_ok-previous.ensures in a.value) (sought c.args.self.bits.now g.row.BLOCK_SIZE c.args.i c.args.r) (begins true _ _ _ _ _ c.requires _ (answer_before c.args.self.bits.now g.row.BLOCK_SIZE c.args.i c.args.r (c.requires.last refl)) c.ranges.r c.in_ok-left.left c.in_ok-left.ensures)))
