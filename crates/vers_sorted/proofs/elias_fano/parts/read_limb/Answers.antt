use Rattle.std.proofs.Common.{nat_eq}
use Rattle.vers_sorted.proofs.Names.{not, ℕ, ◌+◌, ◌*◌, ◌<◌, ◌∙◌, true, length, sym, subst, arith, w64, trailing_zeros, lt-ltb, ltb-true, mul_comm, count}
use Rattle.vers_bits.proofs.PublicLaws.{count_le_all}
use Rattle.vers_sorted.specs.inside.Decoding.{HasRead}
use Rattle.vers_sorted.proofs.Chunks.{chunk_within}
use Rattle.vers_sorted.proofs.Decoding.{lowest_one, none_left, rest_left}
use Rattle.vers_sorted.proofs.Steps.{before_within, failed, one_read, passed}
use Rattle.vers_sorted.proofs.elias_fano.parts.read_limb.Goals as goal

pub read_element-requires-clause-within : goal.read_element-requires-clause-within
read_element-requires-clause-within g c =
    let high = g.H.Limbs.bits c.args.high.now in
    let inv = c.loop-word.invariant in
    let one = lowest_one high c.args.k inv.0 c.loop-word.word inv.1 inv.2 (omega (arith, c.loop-word-test.true)) (omega (arith, c.loop-word.auto.word-fits)) in
    let some : count true high (64 * c.args.k + inv.0) < count true high (length high) = omega (arith, one.3, count_le_all true high (64 * c.args.k + (trailing_zeros w64 c.loop-word.word + 1))) in
    omega (arith, c.requires.low, inv.3.part, chunk_within c.args.width (count true high (length high)) (count true high (64 * c.args.k + inv.0)) some, mul_comm (count true high (length high)) c.args.width)

pub read_element-requires-clause-near : goal.read_element-requires-clause-near
read_element-requires-clause-near g c =
    let high = g.H.Limbs.bits c.args.high.now in
    let inv = c.loop-word.invariant in
    omega (arith, inv.3.position, before_within high (count true high (64 * c.args.k + inv.0)) (count_le_all true high (64 * c.args.k + inv.0)), c.len.ensures.value, c.len.ensures.bounded)

pub returns-then-not-read_element-clause-no : goal.returns-then-not-read_element-clause-no
returns-then-not-read_element-clause-no g c = λ no steps.
    let high = g.H.Limbs.bits c.args.high.now in
    let low = g.L.Limbs.bits c.args.low.now in
    let inv = c.loop-word.invariant in
    let i = count true high (64 * c.args.k + inv.0) in
    let one = lowest_one high c.args.k inv.0 c.loop-word.word inv.1 inv.2 (omega (arith, c.loop-word-test.true)) (omega (arith, c.loop-word.auto.word-fits)) in
    let some : i < count true high (length high) = omega (arith, one.3, count_le_all true high (64 * c.args.k + (trailing_zeros w64 c.loop-word.word + 1))) in
    failed (not (nat_eq g.row.RISING 0)) high low c.args.width i c.loop-word.walk (64 * c.args.k + trailing_zeros w64 c.loop-word.word) inv.3 one.2 c.read_element.result c.read_element.ensures.follows c.if-not-read_element.true (steps i some)

pub loop-word-preserved : goal.loop-word-preserved
loop-word-preserved g c =
    let high = g.H.Limbs.bits c.args.high.now in
    let low = g.L.Limbs.bits c.args.low.now in
    let inv = c.loop-word.invariant in
    let i = count true high (64 * c.args.k + inv.0) in
    let position = 64 * c.args.k + trailing_zeros w64 c.loop-word.word in
    let one = lowest_one high c.args.k inv.0 c.loop-word.word inv.1 inv.2 (omega (arith, c.loop-word-test.true)) (omega (arith, c.loop-word.auto.word-fits)) in
    let step = passed (not (nat_eq g.row.RISING 0)) high low c.args.width i c.loop-word.walk position inv.3 one.2 c.read_element.result c.read_element.ensures.follows c.if-not-read_element.false in
    let read = one_read (not (nat_eq g.row.RISING 0)) high low c.args.width i c.loop-word.walk position inv.3 one.2 c.read_element.new.walk step c.read_element.ensures.position c.read_element.ensures.least c.read_element.ensures.part c.read_element.ensures.read in (
      trailing_zeros w64 c.loop-word.word + 1,
      omega (arith, one.0),
      rest_left high c.args.k inv.0 c.loop-word.word inv.1 inv.2 (omega (arith, c.loop-word-test.true)) (omega (arith, c.loop-word.auto.word-fits)),
      subst (λ (n : ℕ). HasRead (not (nat_eq g.row.RISING 0)) high low c.args.width n c.read_element.new.walk) (sym one.3) read,
    )

pub returns-clause-yes : goal.returns-clause-yes
returns-clause-yes g c = λ yes.
    let high = g.H.Limbs.bits c.args.high.now in
    let low = g.L.Limbs.bits c.args.low.now in
    let inv = c.loop-word.invariant in
    subst (λ (n : ℕ). HasRead (not (nat_eq g.row.RISING 0)) high low c.args.width n c.loop-word.walk) (sym (none_left high c.args.k inv.0 c.loop-word.word inv.1 inv.2 (omega (arith, c.loop-word-test.false)))) inv.3
