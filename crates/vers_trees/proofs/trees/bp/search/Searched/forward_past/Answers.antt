use Rattle.vers_trees.proofs.Names.{◌+◌, false, arith, ◌∙◌, sought}
use Rattle.vers_trees.proofs.searches.Finds.{answer_after, begins, next_inside, next_answer, none_next, none_far, climbed, climbed_and_scanned}
use Rattle.vers_trees.proofs.layout.Steps.{adds_none}
use Rattle.vers_trees.proofs.trees.bp.search.Searched.forward_past.Goals as goal

pub returns-in_err-left-clause-value : goal.returns-in_err-left-clause-value
returns-in_err-left-clause-value g c = c.from_residual.ensures ∙ none_far false _ _ _ _ _ c.requires _ (answer_after c.args.self.bits.now g.row.BLOCK_SIZE c.args.i c.args.r) c.ranges.r c.in_err-left.ensures

pub next_block_counted-requires : goal.next_block_counted-requires
next_block_counted-requires g c = record { begins = (sought c.args.self.bits.now g.row.BLOCK_SIZE (c.args.i + 1) c.args.r, begins false _ _ _ _ _ c.requires _ (answer_after c.args.self.bits.now g.row.BLOCK_SIZE c.args.i c.args.r) c.ranges.r c.in_ok-left.left c.in_ok-left.ensures) }

pub returns-in_err-next-clause-value : goal.returns-in_err-next-clause-value
returns-in_err-next-clause-value g c =
    c.from_residual-in_err-next.ensures ∙ none_next false _ _ _ _ _ c.requires _ (answer_after c.args.self.bits.now g.row.BLOCK_SIZE c.args.i c.args.r) c.ranges.r c.in_ok-left.left c.in_ok-left.ensures (let a = c.in_err-next.ensures in a.value)

pub overflow_mul-start : goal.overflow_mul-start
overflow_mul-start g c = record { fits = omega (arith, next_inside false _ _ _ _ _ c.requires _ (answer_after c.args.self.bits.now g.row.BLOCK_SIZE c.args.i c.args.r) c.ranges.r c.in_ok-left.left c.in_ok-left.ensures c.in_ok-next.next _ (let a = c.in_ok-next.ensures in a.value)) }

pub overflow_add-start : goal.overflow_add-start
overflow_add-start g c = record { fits = omega (arith, next_inside false _ _ _ _ _ c.requires _ (answer_after c.args.self.bits.now g.row.BLOCK_SIZE c.args.i c.args.r) c.ranges.r c.in_ok-left.left c.in_ok-left.ensures c.in_ok-next.next _ (let a = c.in_ok-next.ensures in a.value)) }

pub returns-clause-value : goal.returns-clause-value
returns-clause-value g c =
    let h = next_inside false _ _ _ _ _ c.requires _ (answer_after c.args.self.bits.now g.row.BLOCK_SIZE c.args.i c.args.r) c.ranges.r c.in_ok-left.left c.in_ok-left.ensures c.in_ok-next.next _ (let a = c.in_ok-next.ensures in a.value) in
    c.ok.ensures.value ∙ next_answer false _ _ _ _ _ c.requires _ (answer_after c.args.self.bits.now g.row.BLOCK_SIZE c.args.i c.args.r) c.ranges.r c.in_ok-left.left c.in_ok-left.ensures c.in_ok-next.next c.in_ok-next.rest (let a = c.in_ok-next.ensures in a.value) _ _ _ (omega arith) (omega arith) c.scan_forward.ensures.value

pub returns-in_err-left-clause-adds : goal.returns-in_err-left-clause-adds
returns-in_err-left-clause-adds g c = adds_none _ _

pub returns-in_err-next-clause-adds : goal.returns-in_err-next-clause-adds
returns-in_err-next-clause-adds g c = climbed false _ _ _ _ _ c.requires _ _ c.next_block_counted.ensures.adds

pub returns-clause-adds : goal.returns-clause-adds
returns-clause-adds g c =
    climbed_and_scanned false _ _ _ _ _ c.requires _ _ c.next_block_counted.ensures.adds _ _ (omega arith) c.scan_forward.ensures.adds

pub scan_forward-requires-clause-order : goal.scan_forward-requires-clause-order
scan_forward-requires-clause-order g c = omega (arith, next_inside false _ _ _ _ _ c.requires _ (answer_after c.args.self.bits.now g.row.BLOCK_SIZE c.args.i c.args.r) c.ranges.r c.in_ok-left.left c.in_ok-left.ensures c.in_ok-next.next _ (let a = c.in_ok-next.ensures in a.value))
