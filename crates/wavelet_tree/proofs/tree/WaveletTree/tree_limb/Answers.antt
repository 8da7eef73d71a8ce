use Rattle.wavelet_tree.proofs.Names.{◌∙◌, ◌<◌, ◌*◌, List, Bool, ap, length, limb, subst, sym, Symbols, IsTreeOf}
use Rattle.wavelet_tree.proofs.Saving.{limb_saved}
use Rattle.wavelet_tree.proofs.tree.WaveletTree.tree_limb.Goals as goal

pub limb-requires : goal.limb-requires
limb-requires g c =
    let is = subst (λ (s : Symbols). IsTreeOf s c.self.inside.starts c.self.inside.nodes c.self.inside.bits c.self.inside.root c.self.inside.width c.self.inside.len) c.self.view_is c.self.invariant in
    subst (λ (l : List Bool). 64 * c.args.k < length l) (sym c.bits.ensures) (limb_saved is c.args.k c.requires).0

pub returns : goal.returns
returns g c =
    let is = subst (λ (s : Symbols). IsTreeOf s c.self.inside.starts c.self.inside.nodes c.self.inside.bits c.self.inside.root c.self.inside.width c.self.inside.len) c.self.view_is c.self.invariant in
    c.limb.ensures ∙ ap (λ (l : List Bool). limb l c.args.k) c.bits.ensures ∙ (limb_saved is c.args.k c.requires).1
