use Rattle.wavelet_tree.proofs.Names.{map, List, ℕ, ap, subst, Grows}
use Rattle.wavelet_tree.proofs.Growing.{count_empty, forks_made}
use Rattle.wavelet_tree.proofs.grow.forks_of.Goals as goal

pub grow-requires-clause-ones : goal.grow-requires-clause-ones
grow-requires-clause-ones g c = count_empty c.in_ok-bits.bits c.in_ok-bits.ensures

pub returns : goal.returns
returns g c =
    let grows = subst (λ (l : List ℕ). Grows c.args.starts.now 0 c.args.limit l c.in_ok-nodes.nodes.items c.grow.new.grown.nodes.items c.in_ok-bits.bits c.grow.new.grown.bits c.grow.new.grown.ones c.in_ok-tree.tree.link c.in_ok-tree.tree.entry)
    (ap (λ l. map g.T.Integer.value l) c.as_mut_slice.ensures.value) c.in_ok-tree.ensures in
    forks_made c.args.starts.now c.args.limit (map g.T.Integer.value c.args.items.items) c.in_ok-nodes.nodes.items c.grow.new.grown.nodes.items c.in_ok-bits.bits c.grow.new.grown.bits c.in_ok-bits-2.bits
    c.grow.new.grown.ones c.in_ok-tree.tree.link c.in_ok-tree.tree.entry grows c.in_ok-nodes.ensures.items c.in_ok-bits.ensures c.in_ok-bits-2.ensures.bits c.in_ok-bits-2.ensures.fits
