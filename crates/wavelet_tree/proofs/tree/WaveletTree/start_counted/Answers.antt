use Rattle.wavelet_tree.proofs.Names.{subst, ◌∙◌, Symbols, IsTreeOf}
use Rattle.wavelet_tree.proofs.Saving.{start_saved}
use Rattle.wavelet_tree.proofs.tree.WaveletTree.start_counted.Goals as goal

pub read-requires : goal.read-requires
read-requires g c =
    let is = subst (λ (s : Symbols). IsTreeOf s c.self.inside.starts c.self.inside.nodes c.self.inside.bits c.self.inside.root c.self.inside.width c.self.inside.len) c.self.view_is c.self.invariant in
    (start_saved is c.args.symbol c.requires).0

pub returns-clause-value : goal.returns-clause-value
returns-clause-value g c =
    let is = subst (λ (s : Symbols). IsTreeOf s c.self.inside.starts c.self.inside.nodes c.self.inside.bits c.self.inside.root c.self.inside.width c.self.inside.len) c.self.view_is c.self.invariant in
    c.read.ensures.value ∙ (start_saved is c.args.symbol c.requires).1
