use Rattle.wavelet_tree.proofs.Names.{◌^◌, List, arith, length, subst, sym, Node, Symbols, IsTreeOf}
use Rattle.wavelet_tree.specs.inside.Reading.{StoresMany}
use Rattle.wavelet_tree.proofs.Reading.{whole_stores}
use Rattle.wavelet_tree.proofs.tree.WaveletTree.to_integers.Goals as goal

pub read_tree-requires-clause-stored : goal.read_tree-requires-clause-stored
read_tree-requires-clause-stored g c =
    let is = subst (λ (s : Symbols). IsTreeOf s c.self.inside.starts c.self.inside.nodes c.self.inside.bits c.self.inside.root c.self.inside.width c.self.inside.len) c.self.view_is c.self.invariant in
    subst (λ (n : List Node). StoresMany n c.self.inside.bits c.self.inside.root 0 (length c.as_mut_slice.result.now) (2 ^ g.T.Integer.bits)) (sym c.as_slice-nodes.ensures)
    (whole_stores (length c.as_mut_slice.result.now) g.T.Integer.bits is (omega (arith, c.as_mut_slice.ensures.len, c.in_ok-items.ensures)) c.requires)
