use Rattle.vers_saved.proofs.Names.{◌≡◌, ◌-◌, ◌∙◌, ap, arith, length, length-limbs, limb, limbs, limb_count, get_or}
use Rattle.vers_sorted.specs.Layout.{high_parts, low_parts}
use Rattle.vers_saved.proofs.SortedForms.{high_word, low_word}
use Rattle.vers_saved.proofs.SortedParts.{length-sorted}
use Rattle.vers_saved.proofs.parts.list_word.Goals as goal

pub returns-then-k-limbs : goal.returns-then-k-limbs
returns-then-k-limbs g c =
    c.limb.ensures ∙ ap (λ l. limb l (c.args.k - 3)) c.low_parts-low.ensures
    ∙ low_word c.args.list.now c.args.k (omega (arith, c.if-k-lt-ENDS.false)) (omega (arith, c.if-k-limbs.true, c.div_ceil-limbs.ensures, c.len.ensures.value, ap length c.low_parts-low.ensures))

pub limb_of-requires : goal.limb_of-requires
limb_of-requires g c =
    omega (arith, c.requires, length-sorted c.args.list.now, c.if-k-lt-ENDS.false, c.if-k-limbs.false, c.div_ceil-limbs.ensures, c.len.ensures.value, ap length c.low_parts-low.ensures, length-limbs c.high_parts.result.now, ap length c.high_parts.ensures)

pub returns : goal.returns
returns g c =
    let same : c.div_ceil-limbs.result ≡ limb_count (length (low_parts c.args.list.now)) = omega (arith, c.div_ceil-limbs.ensures, c.len.ensures.value, ap length c.low_parts-low.ensures) in
    c.limb_of.ensures ∙ ap (λ l. get_or (limbs l) (c.args.k - 3 - c.div_ceil-limbs.result) 0) c.high_parts.ensures ∙ ap (λ n. get_or (limbs (high_parts c.args.list.now)) (c.args.k - 3 - n) 0) same
    ∙ high_word c.args.list.now c.args.k (omega (arith, c.if-k-lt-ENDS.false)) (omega (arith, c.if-k-limbs.false, same))
