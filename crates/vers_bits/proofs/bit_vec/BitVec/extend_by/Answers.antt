use Rattle.vers_bits.proofs.Names.{◌≡◌, ◌++◌, length, Err, ap, ap₂, ◌∙◌, arith, err_from_is_err_and, flat_map_more, TooLong}
use Rattle.vers_bits.proofs.bit_vec.BitVec.extend_by.Goals as goal

pub loop-list-preserved : goal.loop-list-preserved
loop-list-preserved g c =
    let goes = c.in-Some.ensures.goes.on c.loop-list.invariant.ends in
    record { can = goes.0; ends = goes.1; grown = c.in_ok-extend_bitvec.ensures.grown ∙ ap₂ ◌++◌ c.loop-list.invariant.grown c.as_list.ensures ∙ flat_map_more g.L.AsList.bits _ _ _ }

pub returns-in_err-extend_bitvec-clause-refused : goal.returns-in_err-extend_bitvec-clause-refused
returns-in_err-extend_bitvec-clause-refused g c =
    let p = err_from_is_err_and c.from_residual.result c.from_residual.ensures.1 in
    let kept = ap length c.in_err-extend_bitvec.ensures.kept in
    let told = ap length c.as_list.ensures in
    let exact = c.in_err-extend_bitvec.ensures.too_long in
    rw (p.1, p.2) (
      c.loop-list.yielded,
      c.in-Some.list,
      (_, c.loop-list.yielded_by, c.in-Some.ensures.steps),
      c.in_err-extend_bitvec.ensures.kept ∙ c.loop-list.invariant.grown,
      ((λ e. omega (arith, kept, told, exact.0 (ap Err e))), (λ h. let q : Err c.in_err-extend_bitvec.field-0.0 ≡ Err TooLong = exact.1 (omega (arith, kept, told)) in cc)),
    )
