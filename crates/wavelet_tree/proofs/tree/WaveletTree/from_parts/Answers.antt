use Rattle.std.proofs.lemmas.Result.{err_from_is_err_and}
use Rattle.std.proofs.lemmas.List.{get_or_read}
use Rattle.wavelet_tree.proofs.Names.{◌≡◌, ◌+◌, ◌^◌, ◌<◌, ◌∙◌, ℕ, List, ap, refl, arith, sym, subst, get_or, length, pow-le-pow_right, pow_pos, tree_bits, balanced, AreForksOf, CountsWithin, HasParts, IsTreeOf, Node, Symbols}
use Rattle.wavelet_tree.proofs.Rebuilding.{Loads, loaded, parts_whole, same_symbols}
use Rattle.wavelet_tree.proofs.tree.WaveletTree.from_parts.Given.{Over}
use Rattle.wavelet_tree.proofs.tree.WaveletTree.from_parts.Goals.{After-new-2}
use Rattle.wavelet_tree.proofs.tree.WaveletTree.from_parts.Goals as goal

pub forks_in-requires-clause-narrow : goal.forks_in-requires-clause-narrow
forks_in-requires-clause-narrow g c =
    omega (arith, c.symbol_limit-limit.ensures, pow-le-pow_right {n = 2} (omega arith) {i = c.args.width} {j = 16} (c.are_starts.ensures.narrow c.if-not-are_starts.false))

pub returns-in_err-nodes-clause-none : goal.returns-in_err-nodes-clause-none
returns-in_err-nodes-clause-none g c =
    let p = err_from_is_err_and c.from_residual.result c.from_residual.ensures.1 in
    rw (p.1, p.2) (λ same symbols width has.
    let limit : ℕ = c.symbol_limit-limit.result in
    let some : 0 < limit = omega (arith, c.symbol_limit-limit.ensures, pow_pos c.args.width) in
    let whole = parts_whole symbols c.args.starts.items c.args.bits c.args.width limit width c.symbol_limit-limit.ensures some has in
    let items = sym c.as_slice-2.ensures.value in
    c.in_err-nodes.ensures.none same symbols.items (subst (λ (l : List ℕ). CountsWithin l 0 limit symbols.items) items whole.0) (ap (λ (l : List ℕ). tree_bits (balanced l limit 0 limit) symbols.items) (sym items) ∙ whole.1))

-- the elements that the bits lead to
made : (g : Over) (c : After-new-2 g) → AreForksOf c.new.result c.symbol_limit-limit.result c.args.bits c.new-2.result c.in_ok-nodes.field-0.bits c.in_ok-nodes.field-0.root
made g c =
    subst (λ (n : List Node). AreForksOf c.new.result c.symbol_limit-limit.result c.args.bits n c.in_ok-nodes.field-0.bits c.in_ok-nodes.field-0.root) (sym c.new-2.ensures)
    (subst (λ (l : List ℕ). AreForksOf l c.symbol_limit-limit.result c.args.bits c.in_ok-nodes.field-0.nodes.items c.in_ok-nodes.field-0.bits c.in_ok-nodes.field-0.root) (c.as_slice-2.ensures.value ∙ sym c.new.ensures) c.in_ok-nodes.ensures.made)

loads : (g : Over) (c : After-new-2 g) → Loads c.args.width c.index.result.now c.new.result c.new-2.result c.args.bits c.in_ok-nodes.field-0.bits c.in_ok-nodes.field-0.root (made g c).xs
loads g c =
    let yes = c.if-not-are_starts.false in
    let same : c.as_slice.result.now ≡ c.new.result = c.as_slice.ensures.value ∙ sym c.new.ensures in
    let long : length c.new.result ≡ 2 ^ c.args.width + 1 = ap length (sym same) ∙ c.are_starts.ensures.long yes in
    let first : get_or c.new.result 0 0 ≡ 0 = ap (λ (l : List ℕ). get_or l 0 0) (sym same) ∙ c.are_starts.ensures.zero yes in
    let inside : c.symbol_limit-limit.result < length c.args.starts.items = omega (arith, long, c.symbol_limit-limit.ensures, ap length c.new.ensures) in
    let last : c.index.result.now ≡ get_or c.args.starts.items c.symbol_limit-limit.result 0 = get_or_read _ _ _ inside c.index.ensures 0 in
    loaded c.args.width c.symbol_limit-limit.result c.index.result.now c.new.result c.new-2.result c.args.bits c.in_ok-nodes.field-0.bits c.in_ok-nodes.field-0.root c.symbol_limit-limit.ensures
    (c.are_starts.ensures.narrow yes) long first (last ∙ ap (λ (l : List ℕ). get_or l c.symbol_limit-limit.result 0) (sym c.new.ensures)) (made g c)

pub invariant_of-result : goal.invariant_of-result
invariant_of-result g c =
    let all = loads g c in
    subst (λ (l : List ℕ). IsTreeOf (record { width = c.args.width; items = l }) c.new.result c.new-2.result c.in_ok-nodes.field-0.bits c.in_ok-nodes.field-0.root c.args.width c.index.result.now) (sym all.items) all.tree

parts : (g : Over) (c : After-new-2 g) → HasParts (record { width = c.args.width; items = (made g c).xs }) c.args.starts.items c.args.bits
parts g c = subst (λ (l : List ℕ). HasParts (record { width = c.args.width; items = (made g c).xs }) l c.args.bits) c.new.ensures (loads g c).parts

pub returns-clause-parts : goal.returns-clause-parts
returns-clause-parts g c = subst (λ (l : List ℕ). HasParts (record { width = c.args.width; items = l }) c.args.starts.items c.args.bits) (sym (loads g c).items) (parts g c)

pub returns-clause-back : goal.returns-clause-back
returns-clause-back g c = λ symbols width has.
    let limit : ℕ = c.symbol_limit-limit.result in
    let some : 0 < limit = omega (arith, c.symbol_limit-limit.ensures, pow_pos c.args.width) in
    let with : List ℕ → Symbols = λ l. record { width = c.args.width; items = l } in
    same_symbols c.args.width limit c.args.starts.items c.args.bits symbols (with (made g c).xs) c.symbol_limit-limit.ensures some width refl has (parts g c) ∙ ap with (sym (loads g c).items)
