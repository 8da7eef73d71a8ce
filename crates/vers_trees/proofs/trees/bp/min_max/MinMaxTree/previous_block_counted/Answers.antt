use Rattle.vers_trees.proofs.Names.{rules, true, ◌+ℤ◌, w64, to_z, arith, to_z-of_z, not_from_Decides}
use Rattle.vers_trees.proofs.layout.Climbs.{begin_within, comes_from, goes_down, goes_on, ends_there, rest_is}
use Rattle.vers_trees.proofs.layout.Steps.{odd_most, digits_before, adds_none, read_up, up_ends, up_then_down}
use Rattle.vers_trees.proofs.trees.bp.min_max.MinMaxTree.previous_block_counted.Goals as goal

pub loop-node-init : goal.loop-node-init
loop-node-init g c =
    let o = c.node_before-node.ensures in let most = odd_most _ _ o.1 in let few = begin_within _ _ _ true c.args.begin _ c.requires.begins.1 in
    record { comes = λ s b. comes_from s c.args.self.now.first c.args.self.now.nodes true c.args.begin _ _ b o; within = omega arith; reads = adds_none _ _ }

pub returns : goal.returns
returns g c = record {
  value = λ s b. (c.loop-node.invariant.comes s (rw (to_z-of_z w64 c.args.left c.ranges.left) b)).none (omega arith);
  adds = up_ends _ _ c.args.self.now.first c.loop-node.node c.loop-node.invariant.within c.loop-node.invariant.reads;
}

pub descend_back_counted-requires-clause-leads : goal.descend_back_counted-requires-clause-leads
descend_back_counted-requires-clause-leads g c =
    let e = rest_is (λ y. to_z w64 c.loop-node.left-bits +ℤ y) c.node_counted-before.result.total c.in_ok-rest.rest (search rules) c.in_ok-rest.ensures in
    (c.requires.begins.0, goes_down _ _ _ true _ _ c.node_counted-before.result (c.loop-node.invariant.comes c.requires.begins.0 (rw (to_z-of_z w64 c.args.left c.ranges.left) c.requires.begins.1)) c.loop-node-test.true c.node_counted-before.ensures.value (rw e at (c.meets.ensures.0 c.if-meets.true)))

pub returns-then-meets : goal.returns-then-meets
returns-then-meets g c =
    let i = c.loop-node.invariant in
    let e = rest_is (λ y. to_z w64 c.loop-node.left-bits +ℤ y) c.node_counted-before.result.total c.in_ok-rest.rest (search rules) c.in_ok-rest.ensures in
    record {
      value = λ s b. c.descend_back_counted.ensures.found s (goes_down _ _ _ true _ _ c.node_counted-before.result (i.comes s (rw (to_z-of_z w64 c.args.left c.ranges.left) b)) c.loop-node-test.true c.node_counted-before.ensures.value (rw e at (c.meets.ensures.0 c.if-meets.true)));
      adds = up_then_down _ _ _ _ c.args.self.now.first c.loop-node.node i.within c.loop-node-test.true i.reads c.node_counted-before.ensures.adds c.descend_back_counted.ensures.adds;
    }

pub returns-in_err-rest : goal.returns-in_err-rest
returns-in_err-rest g c = record {
  value = rw c.from_residual.ensures (λ s b. ends_there _ _ _ true _ _ c.node_counted-before.result (c.loop-node.invariant.comes s (rw (to_z-of_z w64 c.args.left c.ranges.left) b)) c.loop-node-test.true c.node_counted-before.ensures.value (λ h. c.in_err-rest.ensures (rw (to_z-of_z w64 c.node_counted-before.result.total (search rules)) h)));
  adds = up_then_down _ _ _ _ c.args.self.now.first c.loop-node.node c.loop-node.invariant.within c.loop-node-test.true c.loop-node.invariant.reads c.node_counted-before.ensures.adds (adds_none _ _);
}

pub loop-node-preserved : goal.loop-node-preserved
loop-node-preserved g c =
    let i = c.loop-node.invariant in
    let e = rest_is (λ y. to_z w64 c.loop-node.left-bits +ℤ y) c.node_counted-before.result.total c.in_ok-rest.rest (search rules) c.in_ok-rest.ensures in
    let o = c.node_before-node-in-loop-node.ensures in let at = o.2 in let most = odd_most _ _ o.1 in
    let far = (i.comes c.requires.begins.0 (rw (to_z-of_z w64 c.args.left c.ranges.left) c.requires.begins.1)).far c.loop-node-test.true in
    record {
      comes = λ s b. rw e (goes_on _ _ _ true _ _ c.node_counted-before.result (i.comes s b) c.loop-node-test.true c.node_counted-before.ensures.value _ (λ r. not_from_Decides _ c.meets.ensures c.if-meets.false (rw e r)) o);
      within = omega arith;
      reads = read_up _ _ _ c.args.self.now.first c.loop-node.node _ i.within (rw at (digits_before _ _ far o.1)) i.reads c.node_counted-before.ensures.adds;
    }

pub loop-node-smaller : goal.loop-node-smaller
loop-node-smaller g c = omega (arith, odd_most _ _ c.node_before-node-in-loop-node.ensures.1)

pub overflow_add-self : goal.overflow_add-self
overflow_add-self g c = let few = begin_within _ _ _ true c.args.begin _ c.requires.begins.1 in record { fits = omega arith }

pub node_before-node-requires : goal.node_before-node-requires
node_before-node-requires g c = omega (arith, begin_within _ _ _ true c.args.begin _ c.requires.begins.1)
