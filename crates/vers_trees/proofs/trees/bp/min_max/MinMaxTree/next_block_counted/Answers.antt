use Rattle.vers_trees.proofs.Names.{mul-le-mul_right, rules, false, ◌-ℤ◌, w64, FitsSigned, to_z, arith, to_z-of_z, not_from_Decides}
use Rattle.vers_trees.proofs.layout.Climbs.{comes_from, goes_down, goes_on, ends_there, rest_is}
use Rattle.vers_trees.proofs.layout.Steps.{odd_most, digits_after, adds_none, read_up, up_ends, up_then_down}
use Rattle.vers_trees.proofs.trees.bp.min_max.MinMaxTree.next_block_counted.Goals as goal

pub returns-then-begin-self-clause-value : goal.returns-then-begin-self-clause-value
returns-then-begin-self-clause-value g c = λ s b k x y. grind (arith, mul-le-mul_right)

pub loop-node-init : goal.loop-node-init
loop-node-init g c =
    let o = c.node_after-node.ensures in let most = odd_most _ _ o in
    record { comes = λ s b. comes_from s c.args.self.now.first c.args.self.now.nodes false c.args.begin _ _ b o; within = omega arith; reads = adds_none _ _ }

pub returns : goal.returns
returns g c = record {
  value = λ s b. (c.loop-node.invariant.comes s (rw (to_z-of_z w64 c.args.left c.ranges.left) b)).none (omega arith);
  adds = up_ends _ _ c.args.self.now.first c.loop-node.node c.loop-node.invariant.within c.loop-node.invariant.reads;
}

pub descend_counted-requires-clause-leads : goal.descend_counted-requires-clause-leads
descend_counted-requires-clause-leads g c = (c.requires.begins.0, goes_down _ _ _ false _ _ c.node_counted-after.result (c.loop-node.invariant.comes c.requires.begins.0 (rw (to_z-of_z w64 c.args.left c.ranges.left) c.requires.begins.1)) c.loop-node-test.true c.node_counted-after.ensures.value (c.reaches.ensures.0 c.if-reaches.true))

pub returns-then-reaches : goal.returns-then-reaches
returns-then-reaches g c =
    let i = c.loop-node.invariant in
    record {
      value = λ s b. c.descend_counted.ensures.found s (goes_down _ _ _ false _ _ c.node_counted-after.result (i.comes s (rw (to_z-of_z w64 c.args.left c.ranges.left) b)) c.loop-node-test.true c.node_counted-after.ensures.value (c.reaches.ensures.0 c.if-reaches.true));
      adds = up_then_down _ _ _ _ c.args.self.now.first c.loop-node.node i.within c.loop-node-test.true i.reads c.node_counted-after.ensures.adds c.descend_counted.ensures.adds;
    }

pub returns-in_err-left : goal.returns-in_err-left
returns-in_err-left g c = record {
  value = rw c.from_residual.ensures (λ s b. ends_there _ _ _ false _ _ c.node_counted-after.result (c.loop-node.invariant.comes s (rw (to_z-of_z w64 c.args.left c.ranges.left) b)) c.loop-node-test.true c.node_counted-after.ensures.value (λ h. c.in_err-left.ensures (rw (to_z-of_z w64 c.node_counted-after.result.total (search rules)) h)));
  adds = up_then_down _ _ _ _ c.args.self.now.first c.loop-node.node c.loop-node.invariant.within c.loop-node-test.true c.loop-node.invariant.reads c.node_counted-after.ensures.adds (adds_none _ _);
}

pub loop-node-preserved : goal.loop-node-preserved
loop-node-preserved g c =
    let f : FitsSigned w64 c.node_counted-after.result.total = search rules in let i = c.loop-node.invariant in
    let e = rest_is (λ y. to_z w64 c.loop-node.left-bits -ℤ y) c.node_counted-after.result.total c.in_ok-left.left f c.in_ok-left.ensures in
    let o = c.node_after-node-in-loop-node.ensures in let most = odd_most _ _ o in
    let far = (i.comes c.requires.begins.0 (rw (to_z-of_z w64 c.args.left c.ranges.left) c.requires.begins.1)).far c.loop-node-test.true in
    record {
      comes = λ s b. rw e (goes_on _ _ _ false _ _ c.node_counted-after.result (i.comes s b) c.loop-node-test.true c.node_counted-after.ensures.value _ (not_from_Decides _ c.reaches.ensures c.if-reaches.false) o);
      within = omega arith;
      reads = read_up _ _ _ c.args.self.now.first c.loop-node.node _ i.within (digits_after _ _ c.loop-node-test.true far o) i.reads c.node_counted-after.ensures.adds;
    }

pub loop-node-smaller : goal.loop-node-smaller
loop-node-smaller g c = omega (arith, odd_most _ _ c.node_after-node-in-loop-node.ensures)
