use Rattle.vers_sorted.proofs.Names.{◌-◌, ◌/◌, ◌%◌, ◌^◌, arith, refl, w64, trailing_zeros}
use Rattle.vers_sorted.proofs.Marks.{position_found, none_in_limb}
use Rattle.vers_sorted.proofs.sparse.position_in_limb.Goals as goal

pub returns-then-skip-min-clause-some : goal.returns-then-skip-min-clause-some
returns-then-skip-min-clause-some g c =
    position_found c.args.bit c.args.bits.now c.args.position c.marks_of.result (c.marks_of.result / 2 ^ (c.args.position % 64)) c.min.result c.requires c.marks_of.ensures refl (omega arith)
    (omega (arith, c.min.ensures, c.len.ensures.value)) (trailing_zeros w64 (c.marks_of.result / 2 ^ (c.args.position % 64))) refl c.if-skip-min.true

pub returns-clause-none : goal.returns-clause-none
returns-clause-none g c =
    λ _. none_in_limb c.args.bit c.args.bits.now c.args.position c.marks_of.result (c.marks_of.result / 2 ^ (c.args.position % 64)) c.min.result c.requires c.marks_of.ensures refl (omega arith)
    (omega (arith, c.min.ensures, c.len.ensures.value)) (trailing_zeros w64 (c.marks_of.result / 2 ^ (c.args.position % 64))) refl (omega (arith, c.if-skip-min.false))
