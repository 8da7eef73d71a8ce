use Rattle.wavelet_tree.proofs.Names.{◌≡◌, ◌+◌, ◌∙◌, ℕ, List, map, length, ap, sym, subst, length-map, range_with_len, Node, lesser, balanced, IsTreeOf, AreForks, symbols_in}
use Rattle.wavelet_tree.proofs.Beginning.{tree_made}
use Rattle.wavelet_tree.proofs.tree.WaveletTree.from_vec.Given.{Over}
use Rattle.wavelet_tree.proofs.tree.WaveletTree.from_vec.Goals.{After-new-2}
use Rattle.wavelet_tree.proofs.tree.WaveletTree.from_vec.Goals as goal

made : (g : Over) (c : After-new-2 g) → IsTreeOf (record { width = c.args.width; items = map g.T.Integer.value c.args.symbols.items }) c.new.result c.new-2.result c.in_ok-nodes.field-0.bits c.in_ok-nodes.field-0.root c.args.width c.len-len.result
    × (symbols_in c.new-2.result c.in_ok-nodes.field-0.bits c.in_ok-nodes.field-0.root c.len-len.result ≡ map g.T.Integer.value c.args.symbols.items)
made g c =
    let xs = map g.T.Integer.value c.args.symbols.items in
    let limit : ℕ = c.symbol_limit-limit.result in
    let same : c.as_slice-2.result.now ≡ c.new.result = c.as_slice-2.ensures.value ∙ sym c.new.ensures in
    let starts_are : c.new.result ≡ map (lesser xs) (range_with_len 0 (limit + 1)) =
    c.new.ensures ∙ c.in_ok-starts.ensures.are ∙ ap (λ l. map (lesser (map g.T.Integer.value l)) (range_with_len 0 (limit + 1))) c.as_slice.ensures.value in
    let forks_are =
    subst (λ (n : List Node). AreForks (balanced c.new.result limit 0 limit) c.new.result xs n c.in_ok-nodes.field-0.bits c.in_ok-nodes.field-0.root) (sym c.new-2.ensures)
    (subst (λ (l : List ℕ). AreForks (balanced l limit 0 limit) l xs c.in_ok-nodes.field-0.nodes.items c.in_ok-nodes.field-0.bits c.in_ok-nodes.field-0.root) same c.in_ok-nodes.ensures) in
    tree_made c.args.width limit c.len-len.result xs c.new.result c.new-2.result c.in_ok-nodes.field-0.bits c.in_ok-nodes.field-0.root c.symbol_limit-limit.ensures c.requires.narrow c.requires.small
    (length-map c.args.symbols.items g.T.Integer.value ∙ ap length (sym c.as_slice.ensures.value) ∙ c.as_slice.ensures.len ∙ sym c.len-len.ensures) c.len-len.type_inv starts_are forks_are

pub invariant_of-result : goal.invariant_of-result
invariant_of-result g c =
    let all = made g c in
    subst (λ (l : List ℕ). IsTreeOf (record { width = c.args.width; items = l }) c.new.result c.new-2.result c.in_ok-nodes.field-0.bits c.in_ok-nodes.field-0.root c.args.width c.len-len.result) (sym all.1) all.0

pub returns-clause-items : goal.returns-clause-items
returns-clause-items g c = (made g c).1
