use Rattle.vers_bits.proofs.Names.{rules, ◌≡◌, ◌*◌, [], ◌∷◌, ◌++◌, length, take, ap, ap₂, sym, ◌∙◌, arith, err_from_is_err_and, take_all, low_bits, flat_map, flat_map_more, take_more}
use Rattle.vers_bits.proofs.bit_vec.BitVec.packed_items.Goals as goal

pub returns-in_err-list-clause-too_long : goal.returns-in_err-list-clause-too_long
returns-in_err-list-clause-too_long g c =
    let p = err_from_is_err_and c.from_residual.result c.from_residual.ensures.1 in
    let long : c.in-Some.len ≡ length c.args.items.now * c.args.k = omega (arith, c.in-Some.ensures) in
    rw (p.1, p.2, ← long) c.in_err-list.ensures.too_long

pub returns-then-is_err-clause-too_long : goal.returns-then-is_err-clause-too_long
returns-then-is_err-clause-too_long g c = ((λ e. cc), (λ h. let no = c.in_ok-list.ensures.too_long.1 (omega (arith, h, c.in-Some.ensures)) in cc))

pub loop-item-preserved : goal.loop-item-preserved
loop-item-preserved g c =
    let items = c.args.items.now in
    let i = c.loop-item.item-index in
    let packed = λ (x : g.row.T.Denot). low_bits (g.T.Item.number x) c.args.k in
    let grown : c.append_digits.new.self ≡ c.loop-item.list ++ low_bits c.number.result c.args.k = search rules in
    grown ∙ ap₂ (λ l n. l ++ low_bits n c.args.k) c.loop-item.invariant c.number.ensures ∙ flat_map_more packed [] (take i items) c.item-item.result
    ∙ ap (flat_map packed) (ap (λ x. take i items ++ x ∷ []) c.item-item.is ∙ sym (take_more items i c.item-item.result (omega (arith, c.loop-item-test.true))))

pub returns-clause-made : goal.returns-clause-made
returns-clause-made g c = grind (arith, low_bits, take_all)

pub returns-clause-too_long : goal.returns-clause-too_long
returns-clause-too_long g c = ((λ e. cc), (λ h. let no = c.in_ok-list.ensures.too_long.1 (omega (arith, h, c.in-Some.ensures)) in cc))
