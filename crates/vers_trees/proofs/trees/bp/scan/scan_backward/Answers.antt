use Rattle.vers_trees.proofs.Names.{arith, w64, to_z-of_z}
use Rattle.vers_trees.proofs.searches.Scans.{rise_is}
use Rattle.vers_trees.proofs.trees.bp.scan.scan_backward.Goals as goal

pub bits_backward-requires-clause-passed : goal.bits_backward-requires-clause-passed
bits_backward-requires-clause-passed g c =
    let n = c.in-Err.ensures.value in
    (c.args.end, omega arith, c.requires.inside, rw (rise_is c.args.bits.now c.args.end _ c.in-Err.rise c.requires.short (omega arith) (omega arith) n.risen) n)

pub returns-clause-value : goal.returns-clause-value
returns-clause-value g c =
    let n = c.in-Err.ensures.value in
    let r = rise_is c.args.bits.now c.args.end _ c.in-Err.rise c.requires.short (omega arith) (omega arith) n.risen in
    rw (to_z-of_z w64 c.args.target c.ranges.target) at (c.bits_backward.ensures.value c.args.end (omega arith) c.requires.inside (rw r n))
