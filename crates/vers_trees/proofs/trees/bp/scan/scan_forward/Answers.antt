use Rattle.vers_trees.proofs.Names.{arith, w64, to_z-of_z}
use Rattle.vers_trees.proofs.searches.Scans.{rise_is}
use Rattle.vers_trees.proofs.trees.bp.scan.scan_forward.Goals as goal

pub bits_forward-requires-clause-passed : goal.bits_forward-requires-clause-passed
bits_forward-requires-clause-passed g c =
    let n = c.in-Err.ensures.value in
    (c.args.from, omega arith, rw (rise_is c.args.bits.now c.args.from _ c.in-Err.rise c.requires.short (omega arith) (omega arith) n.risen) n)

pub returns-clause-value : goal.returns-clause-value
returns-clause-value g c =
    let n = c.in-Err.ensures.value in
    let r = rise_is c.args.bits.now c.args.from _ c.in-Err.rise c.requires.short (omega arith) (omega arith) n.risen in
    rw (to_z-of_z w64 c.args.target c.ranges.target) at (c.bits_forward.ensures.value c.args.from (omega arith) (rw r n))
