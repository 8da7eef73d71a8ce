use Rattle.vers_trees.proofs.Names.{◌-◌, arith}
use Rattle.vers_trees.proofs.searches.Bytes.{octal_small, octal_more}
use Rattle.vers_trees.proofs.trees.bp.bytes.number_of.Goals as goal

pub overflow_mul-number : goal.overflow_mul-number
overflow_mul-number c =
    let m = octal_more c.args.digits.now c.loop-x.x c.loop-x.number 0 c.loop-x-test.true (omega arith) c.loop-x.invariant.value in
    let s = octal_small c.args.digits.now (c.loop-x.x - 1) (omega arith) c.requires in record { fits = omega arith }

pub overflow_add-number : goal.overflow_add-number
overflow_add-number c =
    let m = octal_more c.args.digits.now c.loop-x.x c.loop-x.number 0 c.loop-x-test.true (omega arith) c.loop-x.invariant.value in
    let s = octal_small c.args.digits.now (c.loop-x.x - 1) (omega arith) c.requires in record { fits = omega arith }

pub loop-x-preserved : goal.loop-x-preserved
loop-x-preserved c =
    let i = c.loop-x.invariant in
    record { within = omega arith; value = octal_more c.args.digits.now c.loop-x.x c.loop-x.number 0 c.loop-x-test.true (omega arith) i.value }

pub returns-clause-bounded : goal.returns-clause-bounded
returns-clause-bounded c = omega (arith, octal_small c.args.digits.now c.loop-x.x (omega arith) c.requires)
