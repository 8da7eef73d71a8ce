use Rattle.vers_trees.proofs.Names.{rules, arith, ◌≡◌, pos, w64, to_z, of_z, ◌∙◌, int_min, int_max, true_from_ne_false, ints, clamps, to_z-of_z}
use Rattle.vers_trees.proofs.trees.bp.min_max.Node.meets.Goals as goal

pub returns-then-min-left : goal.returns-then-min-left
returns-then-min-left c =
    let m : to_z w64 (of_z w64 c.min.result) ≡ int_min c.args.self.now.least (pos 0) = to_z-of_z w64 c.min.result (search rules) ∙ (rw (to_z-of_z w64 c.args.self.now.least (search rules)) at c.min.ensures.value) in
    let n : to_z w64 (of_z w64 c.max.result) ≡ int_max c.args.self.now.greatest (pos 0) = to_z-of_z w64 c.max.result (search rules) ∙ (rw (to_z-of_z w64 c.args.self.now.greatest (search rules)) at c.max.ensures.value) in
    rw (n, (to_z-of_z w64 c.args.left c.ranges.left)) (
      λ t. record { low = omega (arith, ints, clamps); high = omega (arith, ints, clamps) },
      λ i. true_from_ne_false _ (λ f. omega (arith, ints, clamps)),
    )
