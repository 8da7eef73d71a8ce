use Rattle.vers_trees.proofs.Names.{arith}
use Rattle.vers_trees.proofs.layout.Build.{code_fits, code_step}
use Rattle.vers_trees.proofs.trees.bp.min_max.build.fill.Goals as goal

pub joined-requires : goal.joined-requires
joined-requires c =
    let i = c.loop-i.invariant in let a = c.requires.leaves in
    code_fits a.0 a.1 c.args.first c.loop-i.nodes c.loop-i.i _ _ c.loop-i-test.true i.0 (i.1 a.0 a.1 a.2) c.node_or_empty-left.ensures c.node_or_empty-right.ensures c.requires.levels.0 c.requires.levels.1 a.2.short

pub loop-i-preserved : goal.loop-i-preserved
loop-i-preserved c =
    let i = c.loop-i.invariant in
    (omega arith, λ bits size a. code_step bits size c.args.first c.loop-i.nodes c.loop-i.i _ _ c.loop-i-test.true i.0 (i.1 bits size a) c.node_or_empty-left.ensures c.node_or_empty-right.ensures c.joined.result (omega arith) c.joined.ensures.both c.joined.ensures.alone)
