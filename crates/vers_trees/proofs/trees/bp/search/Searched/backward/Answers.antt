use Rattle.vers_trees.proofs.Names.{rules, ◌≡◌, ◌-◌, ◌*◌, ◌/◌, true, arith, w64, refl, to_z-of_z, ints, start_of}
use Rattle.vers_trees.proofs.searches.Finds.{answer_before, answer_here, before_past, none_before, rise_is}
use Rattle.vers_trees.proofs.trees.bp.search.Searched.backward.Goals as goal
use Rattle.vers_trees.proofs.trees.bp.search.Searched.backward.Goals.{then-i-eq0-via-then-i-eq0, then-i-eq0-via-else-i-eq0+then-i-len}

pub returns-then-i-eq0-clause-value : goal.returns-then-i-eq0-clause-value
returns-then-i-eq0-clause-value g c = grind (arith, ints, none_before, before_past)

pub returns-in-Ok-clause-value : goal.returns-in-Ok-clause-value
returns-in-Ok-clause-value g c =
    let p = rw (to_z-of_z w64 c.args.r c.ranges.r) at c.in-Ok.ensures.value in
    answer_here true _ _ (answer_before c.args.self.bits.now g.row.BLOCK_SIZE c.args.i c.args.r (omega arith)) _ c.in-Ok.position p (omega arith, p.between.1)

pub backward_past-requires : goal.backward_past-requires
backward_past-requires g c =
    let n = c.in-Err.ensures.value in
    let e : (c.args.i - 1) / g.row.BLOCK_SIZE * g.row.BLOCK_SIZE ≡ start_of c.args.self.bits.now g.row.BLOCK_SIZE ((c.args.i - 1) / g.row.BLOCK_SIZE) = omega arith in
    (search rules, record { indexed = c.requires; some = omega arith; inside = omega arith; last = λ t. omega arith; begins = refl; passed = rw (← e, rise_is c.args.self.bits.now c.args.i _ c.in-Err.rise c.requires.short (omega arith) (omega arith) n.risen) n })
