use Rattle.vers_trees.proofs.Names.{◌≡◌, ◌+◌, ◌*◌, arith}
use Rattle.vers_trees.proofs.searches.PartNodes.{none_so_far, all_so_far, next_fits, more_so_far, byte_at}
use Rattle.vers_trees.proofs.trees.bp.scan.node_of_word.Goals as goal

pub loop-k-init : goal.loop-k-init
loop-k-init c = λ bits p is. none_so_far bits p (p + 0) _ (omega arith) c.empty-node.ensures

pub followed_by-node-requires : goal.followed_by-node-requires
followed_by-node-requires c =
    let r = c.requires in let k = c.loop-k.k in let w = r.3.within in
    next_fits r.0 r.1 (r.1 + 8 * k) (r.1 + 8 * k + 8) _ _ (c.loop-k.invariant r.0 r.1 r.3) (c.node_of_byte.ensures r.0 (r.1 + 8 * k) (byte_at r.0 r.1 c.args.word k r.3 (omega arith))) r.2 (omega arith) (omega arith)

pub loop-k-preserved : goal.loop-k-preserved
loop-k-preserved c = λ bits p is.
    let k = c.loop-k.k in let e : p + 8 * (k + 1) ≡ p + 8 * k + 8 = omega arith in
    rw e (more_so_far bits p (p + 8 * k) (p + 8 * k + 8) _ _ _ (c.loop-k.invariant bits p is) (c.node_of_byte.ensures bits (p + 8 * k) (byte_at bits p c.args.word k is (omega arith))) c.followed_by-node.ensures)

pub returns : goal.returns
returns c = λ l p is. all_so_far l p (p + 8 * c.loop-k.k) (p + 64) _ (c.loop-k.invariant l p is) (omega arith) (omega arith)
