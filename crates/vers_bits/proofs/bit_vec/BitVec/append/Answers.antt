use Rattle.vers_bits.proofs.Names.{◌≡◌, ◌≢◌, ◌∷◌, ◌++◌, [], length, refl, ap, sym, ◌∙◌, arith, err_from_is_err_and}
use Rattle.vers_bits.proofs.Words.{length-word_bits, added_bits, added_holds}
use Rattle.vers_bits.proofs.bit_vec.BitVec.append.Goals as goal

pub invariant_of-self : goal.invariant_of-self
invariant_of-self g c = rw c.in_err-add_bit.ensures.kept c.self.invariant

pub returns-in_err-add_bit : goal.returns-in_err-add_bit
returns-in_err-add_bit g c =
    let p = err_from_is_err_and c.from_residual.result c.from_residual.ensures.1 in
    let long : length c.args.self.now ≡ c.self.inside.len = sym (ap length c.self.view_is) ∙ length-word_bits _ _ in
    rw (p.1, p.2, long) (record { grown = tt; kept = rw c.in_err-add_bit.ensures.kept c.self.view_is; too_long = c.in_err-add_bit.ensures.too_long; room = c.in_err-add_bit.ensures.room })

pub invariant_of-self-2 : goal.invariant_of-self-2
invariant_of-self-2 g c =
    let room : c.self.inside.len ≢ 18446744073709551552 = λ full. let refused = c.in_ok-add_bit.ensures.too_long.1 full in cc in
    added_holds c.in_ok-add_bit.ensures.grown c.self.invariant (omega (arith, c.self.invariant.bounded))

pub returns : goal.returns
returns g c =
    let long : length c.args.self.now ≡ c.self.inside.len = sym (ap length c.self.view_is) ∙ length-word_bits _ _ in
    record { grown = added_bits c.in_ok-add_bit.ensures.grown ∙ ap (λ l. l ++ c.args.bit ∷ []) c.self.view_is; kept = tt; too_long = rw long c.in_ok-add_bit.ensures.too_long; room = λ _. refl }
