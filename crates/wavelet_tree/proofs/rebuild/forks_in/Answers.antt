use Rattle.std.proofs.lemmas.Result.{err_from_is_err_and}
use Rattle.wavelet_tree.proofs.Names.{◌∙◌, Bool, List, sym, subst, HasBitsAt, Rebuilds}
use Rattle.wavelet_tree.proofs.Rebuilding.{forks_rebuilt, whole_bits, whole_used}
use Rattle.wavelet_tree.proofs.rebuild.forks_in.Goals as goal

pub returns-in_err-tree-clause-none : goal.returns-in_err-tree-clause-none
returns-in_err-tree-clause-none g c =
    let p = err_from_is_err_and c.from_residual-in_err-tree.result c.from_residual-in_err-tree.ensures.1 in
    rw (p.1, p.2) (λ same xs counts is.
    c.in_err-tree.ensures.none same xs counts (subst (λ (l : List Bool). HasBitsAt c.args.starts.now 0 c.args.limit xs l 0) (sym c.in_ok-bits.ensures.bits) (whole_bits c.args.starts.now c.args.limit xs c.args.bits is)))

pub returns-then-tree-len-clause-none : goal.returns-then-tree-len-clause-none
returns-then-tree-len-clause-none g c = λ same xs counts is.
    let made = subst (λ (l : List Bool). Rebuilds c.args.starts.now 0 c.args.limit c.in_ok-nodes.nodes.items c.rebuild.new.nodes.items l 0 c.in_ok-tree.tree.end c.in_ok-tree.tree.link c.in_ok-tree.tree.entry)
    c.in_ok-bits.ensures.bits c.in_ok-tree.ensures.made in
    c.if-tree-len.true (whole_used c.args.starts.now c.args.limit xs c.args.bits made counts is ∙ sym c.len-len.ensures.value)

pub returns-clause-made : goal.returns-clause-made
returns-clause-made g c =
    forks_rebuilt c.args.starts.now c.args.limit c.in_ok-nodes.nodes.items c.rebuild.new.nodes.items c.args.bits c.in_ok-bits.bits c.in_ok-tree.tree.end c.in_ok-tree.tree.link c.in_ok-tree.tree.entry
    c.in_ok-tree.ensures.made c.in_ok-nodes.ensures.items c.in_ok-bits.ensures.bits c.in_ok-bits.ensures.fits (c.if-tree-len.false ∙ c.len-len.ensures.value)
