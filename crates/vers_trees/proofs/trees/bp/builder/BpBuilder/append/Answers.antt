use Rattle.vers_trees.proofs.Names.{◌<◌, length, arith}
use Rattle.vers_trees.proofs.layout.Building.{one_more_built, stored_sum}
use Rattle.vers_trees.proofs.trees.bp.builder.BpBuilder.append.Goals as goal

pub overflow_add-self : goal.overflow_add-self
overflow_add-self g c =
    (stored_sum g.row.BLOCK_SIZE c.self.inside.bits c.args.opens c.self.inside.excess c.step.result c.self.invariant (omega arith) c.step.ensures).0

pub invariant_of-self-2 : goal.invariant_of-self-2
invariant_of-self-2 g c =
    let room : length c.self.inside.bits < 9223372036854775807 = omega arith in
    rw ((stored_sum g.row.BLOCK_SIZE c.self.inside.bits c.args.opens c.self.inside.excess c.step.result c.self.invariant room c.step.ensures).1, c.in_ok-append.ensures.grown)
    (one_more_built g.row.BLOCK_SIZE c.self.inside.bits c.args.opens c.self.inside.excess c.self.invariant room)
