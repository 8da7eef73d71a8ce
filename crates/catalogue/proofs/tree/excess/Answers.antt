use Rattle.std.proofs.Common.{arith, length, refl, ap, ◌∙◌}
use Rattle.std.proofs.lemmas.Bool.{lt-ltb, le-ltb}
use Rattle.std.proofs.lemmas.Int.{to_z-of_z}
use Rattle.std.specs.Int.{w64, cast_unsigned}
use Rattle.catalogue.specs.declared.answer.Answer.TheVariants.{Found}
use Rattle.catalogue.proofs.tree.excess.Goals as goal

pub returns-then-position-len : goal.returns-then-position-len
returns-then-position-len g c =
    rw (lt-ltb c.args.position (length c.args.tree.now) (omega (arith, c.if-position-len.true, c.len.ensures.value)))
    (rw (← c.excess.ensures) (ap Found (c.cast_unsigned.ensures ∙ ap (cast_unsigned w64) (to_z-of_z w64 c.excess.result (record { sfits = c.excess.type_inv })))))

pub returns-else-position-len : goal.returns-else-position-len
returns-else-position-len g c =
    rw (le-ltb c.args.position (length c.args.tree.now) (omega (arith, c.if-position-len.false, c.len.ensures.value))) refl
