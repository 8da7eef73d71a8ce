use Rattle.vers_sorted.proofs.Names.{◌%◌, ◌∙◌, sym, ap, arith, eq-eqb, eqb-true}
use Rattle.vers_bits.specs.Bits.{limb}
use Rattle.vers_sorted.proofs.Decoding.{at_first, first_at, first_part}
use Rattle.vers_sorted.proofs.elias_fano.parts.begins_at_first.Goals as goal

pub returns-then-limb_or_zero-eq2 : goal.returns-then-limb_or_zero-eq2
unfolding limb
returns-then-limb_or_zero-eq2 g c =
    let low = g.L.Limbs.bits c.args.low.now in
    let high = g.H.Limbs.bits c.args.high.now in
    let two = ap (λ n. n % 4) (sym c.limb_or_zero.ensures) ∙ c.if-limb_or_zero-eq2.true in
    let is = first_part low 0 64 c.args.width c.limb_or_zero-then-limb_or_zero-eq2.result c.requires.narrow (omega (arith, c.requires.narrow)) c.limb_or_zero-then-limb_or_zero-eq2.ensures in
    (λ h. (first_at high c.requires.some two, sym is ∙ eqb-true _ 0 h), λ both. eq-eqb _ 0 (is ∙ both.1))

pub returns-else-limb_or_zero-eq2 : goal.returns-else-limb_or_zero-eq2
returns-else-limb_or_zero-eq2 g c =
    let high = g.H.Limbs.bits c.args.high.now in
    (λ h. absurd (c.if-limb_or_zero-eq2.false (eqb-true _ 2 h)), λ both. absurd (c.if-limb_or_zero-eq2.false (ap (λ n. n % 4) c.limb_or_zero.ensures ∙ at_first high c.requires.some both.0)))
