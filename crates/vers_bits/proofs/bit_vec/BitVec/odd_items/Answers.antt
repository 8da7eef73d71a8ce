use Rattle.vers_bits.proofs.Names.{◌≡◌, length, map, Err, ap, arith, err_from_is_err_and, length-append, length-map, length-take, TooLong}
use Rattle.vers_bits.proofs.Gather.{limb_gathered}
use Rattle.vers_bits.proofs.bit_vec.BitVec.odd_items.Goals as goal

pub returns-in_err-list-clause-too_long : goal.returns-in_err-list-clause-too_long
returns-in_err-list-clause-too_long g c = grind arith

pub returns-in_err-append_bits-clause-too_long : goal.returns-in_err-append_bits-clause-too_long
returns-in_err-append_bits-clause-too_long g c =
    let p = err_from_is_err_and c.from_residual-in_err-append_bits.result c.from_residual-in_err-append_bits.ensures.1 in
    let rest = c.loop-rest.rest.now in
    let long = ap length c.loop-rest.invariant in
    rw (p.1, p.2) (
      (λ e. let same : c.in_err-append_bits.field-0.0 ≡ TooLong = cc in omega (arith, c.in_err-append_bits.ensures.too_long.0 (ap Err same), long, ap length c.split_at.ensures.front, length-take c.min.result rest, length-append c.loop-rest.list (map g.T.Item.is_odd rest), length-map rest g.T.Item.is_odd, length-map c.args.items.now g.T.Item.is_odd)),
      (λ h. let no = c.in_ok-list.ensures.too_long.1 h in cc),
    )

pub loop-rest-preserved : goal.loop-rest-preserved
loop-rest-preserved g c = grind (arith, limb_gathered)

pub returns-clause-too_long : goal.returns-clause-too_long
returns-clause-too_long g c = ((λ e. cc), (λ h. let no = c.in_ok-list.ensures.too_long.1 h in cc))
