use Rattle.vers_trees.proofs.Names.{rules, ◌≡◌, ℕ, ◌+◌, ◌/◌, false, arith, w64, ap, sym, to_z-of_z, start_of}
use Rattle.vers_trees.proofs.searches.Finds.{answer_after, answer_here, none_after, rise_is}
use Rattle.vers_trees.proofs.trees.bp.search.Searched.forward.Goals as goal

pub returns-then-i-len-clause-value : goal.returns-then-i-len-clause-value
returns-then-i-len-clause-value g c = sym (none_after c.args.self.bits.now c.args.i c.args.r (λ k a b. absurd (omega arith)))

pub returns-in-Ok-clause-value : goal.returns-in-Ok-clause-value
returns-in-Ok-clause-value g c =
    let p = rw (to_z-of_z w64 c.args.r c.ranges.r) at c.in-Ok.ensures.value in
    answer_here false _ _ (answer_after c.args.self.bits.now g.row.BLOCK_SIZE c.args.i c.args.r) _ c.in-Ok.position p (p.between.0, omega arith)

pub forward_past-requires : goal.forward_past-requires
forward_past-requires g c =
    let n = c.in-Err.ensures.value in
    let e : c.min-end.result ≡ start_of c.args.self.bits.now g.row.BLOCK_SIZE (c.args.i / g.row.BLOCK_SIZE + 1) = omega arith in
    (search rules, record { indexed = c.requires; some = omega arith; inside = omega arith; last = λ t. absurd (cc); begins = ap (λ (k : ℕ). k / g.row.BLOCK_SIZE) (omega arith); passed = rw (← e, rise_is c.args.self.bits.now (c.args.i + 1) _ c.in-Err.rise c.requires.short (omega arith) (omega arith) n.risen) n })
