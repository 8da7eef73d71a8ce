use Rattle.vers_trees.proofs.Names.{◌≡◌, ℕ, [], ◌∷◌, ◌++◌, ◌+◌, ◌*◌, min, length, arith, subst, ap, ◌∙◌, block_count, AreFirstBlocks}
use Rattle.vers_trees.proofs.layout.Widths.{block_added, begins_inside}
use Rattle.vers_trees.proofs.trees.bp.min_max.build.push_blocks.Goals as goal

pub loop-block-init : goal.loop-block-init
loop-block-init g c = record { counted = omega arith; part = λ k h. absurd (omega arith) }

pub overflow_mul-start : goal.overflow_mul-start
overflow_mul-start g c = record { fits = omega (arith, begins_inside c.args.size c.len-len.result _ _ c.div_ceil-leaves.ensures c.requires.can.some c.loop-block-test.true) }

pub overflow_add-start : goal.overflow_add-start
overflow_add-start g c = record { fits = omega (arith, begins_inside c.args.size c.len-len.result _ _ c.div_ceil-leaves.ensures c.requires.can.some c.loop-block-test.true) }

pub node_of-requires-clause-order : goal.node_of-requires-clause-order
node_of-requires-clause-order g c = omega (arith, begins_inside c.args.size c.len-len.result _ _ c.div_ceil-leaves.ensures c.requires.can.some c.loop-block-test.true)

pub loop-block-preserved : goal.loop-block-preserved
loop-block-preserved g c =
    let e : c.push.new.self.items ≡ c.loop-block.nodes.items ++ c.node_of.result ∷ [] = cc c.in_ok-push.ensures.items in
    let m : c.min-end.result ≡ min (c.loop-block.block * c.args.size + c.args.size) (length c.args.bits.now) = c.min-end.ensures ∙ ap (min (c.loop-block.block * c.args.size + c.args.size)) c.len-len.ensures.value in
    rw e (block_added c.args.bits.now c.args.size c.args.first c.loop-block.block c.loop-block.nodes.items c.node_of.result c.loop-block.invariant (rw m at c.node_of.ensures))

pub returns : goal.returns
returns g c =
    let e : c.loop-block.block ≡ block_count c.args.size (length c.args.bits.now) = (let d = c.div_ceil-leaves.ensures in let h : c.loop-block.block ≡ c.div_ceil-leaves.result = omega arith in h ∙ d) ∙ ap (block_count c.args.size) c.len-len.ensures.value in
    subst (λ (n : ℕ). AreFirstBlocks c.args.bits.now c.args.size c.args.first n c.loop-block.nodes.items) e c.loop-block.invariant
