use Rattle.wavelet_tree.proofs.Names.{arith, subst, Symbols, IsTreeOf}
use Rattle.wavelet_tree.proofs.Saving.{count_saved}
use Rattle.wavelet_tree.proofs.tree.WaveletTree.tree_bit_count.Goals as goal

pub returns : goal.returns
returns g c =
    let is = subst (λ (s : Symbols). IsTreeOf s c.self.inside.starts c.self.inside.nodes c.self.inside.bits c.self.inside.root c.self.inside.width c.self.inside.len) c.self.view_is c.self.invariant in
    omega (arith, count_saved is, c.len.ensures.value)
