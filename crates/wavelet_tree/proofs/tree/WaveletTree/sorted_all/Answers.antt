use Rattle.wavelet_tree.proofs.Names.{arith, subst, Symbols, IsTreeOf}
use Rattle.wavelet_tree.proofs.Beginning.{sorted_between, none_wider}
use Rattle.wavelet_tree.proofs.tree.WaveletTree.sorted_all.Goals as goal

pub returns-then-symbol-self-ne0-clause-end : goal.returns-then-symbol-self-ne0-clause-end
returns-then-symbol-self-ne0-clause-end g c =
    let is = subst (λ (s : Symbols). IsTreeOf s c.self.inside.starts c.self.inside.nodes c.self.inside.bits c.self.inside.root c.self.inside.width c.self.inside.len) c.self.view_is c.self.invariant in
    omega (arith, none_wider is c.args.symbol c.if-symbol-self-ne0.true)

pub read-start-requires : goal.read-start-requires
read-start-requires g c =
    let is = subst (λ (s : Symbols). IsTreeOf s c.self.inside.starts c.self.inside.nodes c.self.inside.bits c.self.inside.root c.self.inside.width c.self.inside.len) c.self.view_is c.self.invariant in
    omega (arith, (sorted_between is c.args.symbol c.if-symbol-self-ne0.false).0)

pub read-end-requires : goal.read-end-requires
read-end-requires g c =
    let is = subst (λ (s : Symbols). IsTreeOf s c.self.inside.starts c.self.inside.nodes c.self.inside.bits c.self.inside.root c.self.inside.width c.self.inside.len) c.self.view_is c.self.invariant in
    (sorted_between is c.args.symbol c.if-symbol-self-ne0.false).0

pub returns-clause-start : goal.returns-clause-start
returns-clause-start g c =
    let is = subst (λ (s : Symbols). IsTreeOf s c.self.inside.starts c.self.inside.nodes c.self.inside.bits c.self.inside.root c.self.inside.width c.self.inside.len) c.self.view_is c.self.invariant in
    λ some. omega (arith, c.read-start.ensures.value, (sorted_between is c.args.symbol c.if-symbol-self-ne0.false).1)

pub returns-clause-end : goal.returns-clause-end
returns-clause-end g c =
    let is = subst (λ (s : Symbols). IsTreeOf s c.self.inside.starts c.self.inside.nodes c.self.inside.bits c.self.inside.root c.self.inside.width c.self.inside.len) c.self.view_is c.self.invariant in
    let between = sorted_between is c.args.symbol c.if-symbol-self-ne0.false in
    omega (arith, c.read-start.ensures.value, c.read-end.ensures.value, between.1, between.2)
