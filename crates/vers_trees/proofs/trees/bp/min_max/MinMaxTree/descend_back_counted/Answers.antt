use Rattle.vers_trees.proofs.Names.{rules, ℕ, ◌+◌, ◌-◌, ◌*◌, ◌<◌, ◌^◌, ◌≤◌, ◌≡◌, Bool, true, not, get_or, empty_node, ◌+ℤ◌, arith, w64, to_z, of_z, ap, ◌∙◌, bool_byte, to_z-of_z, not_from_Decides}
use Rattle.vers_trees.proofs.layout.Climbs.{left_past_fits, to_near, to_far, at_leaf}
use Rattle.vers_trees.proofs.layout.Steps.{one_of_two, read_down, down_begins, down_ends}
use Rattle.vers_trees.proofs.trees.bp.min_max.MinMaxTree.descend_back_counted.Goals as goal
use Rattle.vers_trees.proofs.trees.bp.min_max.MinMaxTree.descend_back_counted.Goals.{then-is_past, else-is_past}

pub loop-node-init : goal.loop-node-init
loop-node-init g c = record {
  every = λ s p. p;
  within = c.requires.within;
  below = λ h. c.right_child_counted-below.ensures.value (omega (arith, h, (c.requires.leads.1).tree.small));
  fits = search rules;
  reads = down_begins _ _ c.args.position c.right_child_counted-below.ensures.adds;
}

pub overflow_add-before : goal.overflow_add-before
overflow_add-before g c =
    let p = c.loop-node.invariant.every c.requires.leads.0 (rw (to_z-of_z w64 c.args.left c.ranges.left) c.requires.leads.1) in
    rw (to_z-of_z w64 c.loop-node.below.total c.loop-node.invariant.fits) (left_past_fits _ _ _ true _ _ c.loop-node.below p c.loop-node-test.true (c.loop-node.invariant.below c.loop-node-test.true))

pub returns : goal.returns
returns g c = record {
  found = λ s p. at_leaf s _ c.args.self.now.nodes true c.loop-node.node _ (c.loop-node.invariant.every s (rw (to_z-of_z w64 c.args.left c.ranges.left) p)) c.loop-node-test.false;
  adds = down_ends _ _ c.loop-node.node c.args.self.now.first c.loop-node.invariant.within c.loop-node.invariant.reads;
}

pub loop-node-preserved : goal.loop-node-preserved
loop-node-preserved g c =
    let i = c.loop-node.invariant in
    let f = i.fits in
    let two : c.from.result ≤ 1 = rw c.from.ensures (one_of_two _) in
    let small : c.args.self.now.first < 2 ^ 63 = (c.requires.leads.1).tree.small in
    let here = i.below c.loop-node-test.true in
    record {
      every = λ s p.
          let q = i.every s p in
          let e : to_z w64 (of_z w64 (to_z w64 c.loop-node.left-bits +ℤ to_z w64 (of_z w64 c.loop-node.below.total))) ≡ to_z w64 c.loop-node.left-bits +ℤ c.loop-node.below.total = rw (to_z-of_z w64 c.loop-node.below.total f) (to_z-of_z w64 _ (left_past_fits _ _ _ true _ _ c.loop-node.below q c.loop-node-test.true here)) in
          elim c.if-is_past.branch [
            | then-is_past b ↦
                let one : c.from.result ≡ 1 = c.from.ensures ∙ ap (λ (x : Bool). bool_byte (not x)) b.if-is_past.true in
                rw (b.left-is ∙ e) (to_far _ _ _ true _ _ _ c.loop-node.below q c.loop-node-test.true here (omega arith) (λ r. not_from_Decides _ c.meets-is_past.ensures b.if-is_past.true (rw e r)))
            | else-is_past b ↦
                let none : c.from.result ≡ 0 = c.from.ensures ∙ ap (λ (x : Bool). bool_byte (not x)) b.if-is_past.false in
                rw b.left-is (to_near _ _ _ true _ _ _ c.loop-node.below q c.loop-node-test.true here (omega arith) (rw e at (c.meets-is_past.ensures.0 b.if-is_past.false)))
          ];
      within = omega arith;
      below = λ h. elim c.if-is_past.branch [
        | then-is_past b ↦
            let one : c.from.result ≡ 1 = c.from.ensures ∙ ap (λ (x : Bool). bool_byte (not x)) b.if-is_past.true in
            let at : 2 * (2 * c.loop-node.node + 1) + 2 ≡ 2 * (2 * c.loop-node.node + 2 - c.from.result) + 2 = omega arith in
            c.either-below.ensures.far (ap not b.if-is_past.true) ∙ c.right_child_counted-far.ensures.value (omega (arith, h, small)) ∙ ap (λ (n : ℕ). get_or c.args.self.now.nodes n empty_node) at
        | else-is_past b ↦
            let none : c.from.result ≡ 0 = c.from.ensures ∙ ap (λ (x : Bool). bool_byte (not x)) b.if-is_past.false in
            let at : 2 * (2 * c.loop-node.node + 2) + 2 ≡ 2 * (2 * c.loop-node.node + 2 - c.from.result) + 2 = omega arith in
            c.either-below.ensures.near (ap not b.if-is_past.false) ∙ c.right_child_counted-near.ensures.value (omega (arith, h, small)) ∙ ap (λ (n : ℕ). get_or c.args.self.now.nodes n empty_node) at
      ];
      fits = search rules;
      reads = read_down _ _ _ _ c.loop-node.node _ (omega arith) i.reads c.right_child_counted-near.ensures.adds c.right_child_counted-far.ensures.adds;
    }

pub loop-node-smaller : goal.loop-node-smaller
loop-node-smaller g c =
    let two : c.from.result ≤ 1 = rw c.from.ensures (one_of_two _) in
    omega (arith, two, c.loop-node-test.true)
