use Rattle.vers_bits.proofs.Names.{◌≡◌, ◌+◌, ◌*◌, ◌++◌, [], length, Err, ap, ap₂, ◌∙◌, arith, err_from_is_err_and, low_bits, flat_map_more, TooLong}
use Rattle.vers_bits.proofs.Growing.{length-packed}
use Rattle.vers_bits.proofs.bit_vec.BitVec.packed_items_of.Goals as goal

pub loop-item-preserved : goal.loop-item-preserved
loop-item-preserved g c =
    let goes = c.in-Some.ensures.goes.on c.loop-item.invariant.ends in
    let more = c.in_ok-append_digits.ensures.grown ∙ ap₂ (λ l n. l ++ low_bits n c.args.k) c.loop-item.invariant.packed c.number.ensures in
    record { can = goes.0; ends = goes.1; packed = more ∙ flat_map_more (λ x. low_bits (g.T.Item.number x) c.args.k) [] _ _ }

pub returns-in_err-append_digits-clause-refused : goal.returns-in_err-append_digits-clause-refused
returns-in_err-append_digits-clause-refused g c =
    let p = err_from_is_err_and c.from_residual.result c.from_residual.ensures.1 in
    let number = g.T.Item.number in
    let before = ap length c.loop-item.invariant.packed ∙ length-packed number c.args.k c.loop-item.yielded in
    let long : length c.loop-item.list + c.args.k ≡ (length c.loop-item.yielded + 1) * c.args.k = omega (arith, before) in
    let exact = c.in_err-append_digits.ensures.too_long in
    rw (p.1, p.2) (
      c.loop-item.yielded,
      c.in-Some.item,
      (_, c.loop-item.yielded_by, c.in-Some.ensures.steps),
      ((λ e. omega (arith, exact.0 (ap Err e))), (λ h. let q : Err c.in_err-append_digits.field-0.0 ≡ Err TooLong = exact.1 (omega arith) in cc)),
    )
