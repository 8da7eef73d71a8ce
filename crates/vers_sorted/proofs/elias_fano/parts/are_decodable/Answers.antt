use Rattle.std.proofs.Common.{nat_eq}
use Rattle.vers_sorted.proofs.Names.{not, ◌≡◌, ℕ, ◌+◌, ◌-◌, ◌*◌, ◌^◌, ◌≤◌, ◌∙◌, true, length, refl, sym, subst, arith, eq-eqb, eqb-true, count_none, select}
use Rattle.std.proofs.lemmas.Bool.{false≢true}
use Rattle.vers_bits.proofs.PublicLaws.{byte_value}
use Rattle.vers_sorted.specs.inside.Decoding.{HasRead, low_at}
use Rattle.vers_sorted.proofs.Decoding.{ones_all}
use Rattle.vers_sorted.proofs.Steps.{decoded_steps, first_low, first_position, last_read, low_small, none_read, steps_decoded}
use Rattle.vers_sorted.proofs.elias_fano.parts.are_decodable.Goals as goal

end_is : (w n position at least part end : ℕ) → end ≡ 2 ^ w * (position - (n - 1) - 1) + least → position ≡ at → least ≡ part → end ≡ 2 ^ w * (at - (n - 1) - 1) + part
end_is w n position at least part end is same_position same_part = is ∙ rw (same_position, same_part) refl

pub returns-then-not-begins_at_first-clause-no : goal.returns-then-not-begins_at_first-clause-no
returns-then-not-begins_at_first-clause-no g c = λ no decoded.
    let high = g.H.Limbs.bits c.args.high.now in
    let low = g.L.Limbs.bits c.args.low.now in
    let span = c.args.ends.last - c.args.ends.first in
    let first = first_position (not (nat_eq g.row.RISING 0)) high low span c.args.width c.args.ends.len c.requires.some c.requires.ones decoded in
    let part = first_low (not (nat_eq g.row.RISING 0)) high low span c.args.width c.args.ends.len c.requires.some c.requires.ones decoded in
    absurd (false≢true (sym c.if-not-begins_at_first.true ∙ c.begins_at_first.ensures.1 (first, part)))

pub loop-k-init : goal.loop-k-init
loop-k-init g c =
    let high = g.H.Limbs.bits c.args.high.now in
    let low = g.L.Limbs.bits c.args.low.now in
    subst (λ (i : ℕ). HasRead (not (nat_eq g.row.RISING 0)) high low c.args.width i c.new-walk.result) (sym (count_none true high))
    (subst (HasRead (not (nat_eq g.row.RISING 0)) high low c.args.width 0) (sym c.new-walk.ensures) (none_read (not (nat_eq g.row.RISING 0)) high low c.args.width))

pub returns-then-not-read_limb-clause-no : goal.returns-then-not-read_limb-clause-no
returns-then-not-read_limb-clause-no g c = λ no decoded.
    let high = g.H.Limbs.bits c.args.high.now in
    let low = g.L.Limbs.bits c.args.low.now in
    let span = c.args.ends.last - c.args.ends.first in
    c.read_limb.ensures.no c.if-not-read_limb.true (λ i h. decoded_steps (not (nat_eq g.row.RISING 0)) high low span c.args.width c.args.ends.len c.requires.some c.requires.ones decoded i (omega (arith, h, c.requires.ones)))

pub overflow_sub-part : goal.overflow_sub-part
overflow_sub-part g c =
    let high = g.H.Limbs.bits c.args.high.now in
    let low = g.L.Limbs.bits c.args.low.now in
    let past : length high ≤ 64 * c.loop-k.k = omega (arith, c.loop-k-test.false, c.loop-k.auto.k-end, c.div_ceil-k-end.ensures, c.len.ensures.value) in
    let read = subst (λ (i : ℕ). HasRead (not (nat_eq g.row.RISING 0)) high low c.args.width i c.loop-k.walk) (ones_all high c.loop-k.k past ∙ c.requires.ones) c.loop-k.invariant in
    omega (arith, (last_read (not (nat_eq g.row.RISING 0)) high low c.args.width c.args.ends.len c.loop-k.walk c.requires.some read).1, c.from.ensures, byte_value (not (nat_eq g.row.RISING 0)))

pub above_of-requires-clause-small : goal.above_of-requires-clause-small
above_of-requires-clause-small g c =
    let high = g.H.Limbs.bits c.args.high.now in
    let low = g.L.Limbs.bits c.args.low.now in
    let past : length high ≤ 64 * c.loop-k.k = omega (arith, c.loop-k-test.false, c.loop-k.auto.k-end, c.div_ceil-k-end.ensures, c.len.ensures.value) in
    let read = subst (λ (i : ℕ). HasRead (not (nat_eq g.row.RISING 0)) high low c.args.width i c.loop-k.walk) (ones_all high c.loop-k.k past ∙ c.requires.ones) c.loop-k.invariant in
    let last = last_read (not (nat_eq g.row.RISING 0)) high low c.args.width c.args.ends.len c.loop-k.walk c.requires.some read in
    omega (arith, last.1, c.from.ensures, byte_value (not (nat_eq g.row.RISING 0)), low_small low c.args.width (c.args.ends.len - 1))

pub returns-in_default-clause-no : goal.returns-in_default-clause-no
returns-in_default-clause-no g c = λ no decoded.
    let high = g.H.Limbs.bits c.args.high.now in
    let low = g.L.Limbs.bits c.args.low.now in
    let past : length high ≤ 64 * c.loop-k.k = omega (arith, c.loop-k-test.false, c.loop-k.auto.k-end, c.div_ceil-k-end.ensures, c.len.ensures.value) in
    let read = subst (λ (i : ℕ). HasRead (not (nat_eq g.row.RISING 0)) high low c.args.width i c.loop-k.walk) (ones_all high c.loop-k.k past ∙ c.requires.ones) c.loop-k.invariant in
    let last = last_read (not (nat_eq g.row.RISING 0)) high low c.args.width c.args.ends.len c.loop-k.walk c.requires.some read in
    let near = (decoded.each (c.args.ends.len - 1) (omega (arith, c.requires.some))).near in
    c.in_default.ensures.none refl (rw (last.0, c.span-span.ensures) near)

pub returns-clause-yes : goal.returns-clause-yes
returns-clause-yes g c = λ h.
    let high = g.H.Limbs.bits c.args.high.now in
    let low = g.L.Limbs.bits c.args.low.now in
    let span = c.args.ends.last - c.args.ends.first in
    let n = c.args.ends.len in
    let past : length high ≤ 64 * c.loop-k.k = omega (arith, c.loop-k-test.false, c.loop-k.auto.k-end, c.div_ceil-k-end.ensures, c.len.ensures.value) in
    let read = subst (λ (i : ℕ). HasRead (not (nat_eq g.row.RISING 0)) high low c.args.width i c.loop-k.walk) (ones_all high c.loop-k.k past ∙ c.requires.ones) c.loop-k.invariant in
    let last = last_read (not (nat_eq g.row.RISING 0)) high low c.args.width n c.loop-k.walk c.requires.some read in
    let part : c.loop-k.walk.least - c.from.result ≡ low_at low c.args.width (n - 1) = omega (arith, last.1, c.from.ensures, byte_value (not (nat_eq g.row.RISING 0))) in
    let first = c.begins_at_first.ensures.0 c.if-not-begins_at_first.false in
    let near = rw (last.0, c.span-span.ensures) at c.in-Some.ensures.near in
    let end = end_is c.args.width n c.loop-k.walk.position (select true high (n - 1)) (c.loop-k.walk.least - c.from.result) (low_at low c.args.width (n - 1)) c.in-Some.end c.in-Some.ensures.value last.0 part in
    steps_decoded (not (nat_eq g.row.RISING 0)) high low span c.args.width n c.requires.some c.requires.ones read.each first.0 first.1 near (sym end ∙ eqb-true c.in-Some.end c.span-span.result h ∙ c.span-span.ensures)

pub returns-clause-no : goal.returns-clause-no
returns-clause-no g c = λ h decoded.
    let high = g.H.Limbs.bits c.args.high.now in
    let low = g.L.Limbs.bits c.args.low.now in
    let n = c.args.ends.len in
    let past : length high ≤ 64 * c.loop-k.k = omega (arith, c.loop-k-test.false, c.loop-k.auto.k-end, c.div_ceil-k-end.ensures, c.len.ensures.value) in
    let read = subst (λ (i : ℕ). HasRead (not (nat_eq g.row.RISING 0)) high low c.args.width i c.loop-k.walk) (ones_all high c.loop-k.k past ∙ c.requires.ones) c.loop-k.invariant in
    let last = last_read (not (nat_eq g.row.RISING 0)) high low c.args.width n c.loop-k.walk c.requires.some read in
    let part : c.loop-k.walk.least - c.from.result ≡ low_at low c.args.width (n - 1) = omega (arith, last.1, c.from.ensures, byte_value (not (nat_eq g.row.RISING 0))) in
    let end = end_is c.args.width n c.loop-k.walk.position (select true high (n - 1)) (c.loop-k.walk.least - c.from.result) (low_at low c.args.width (n - 1)) c.in-Some.end c.in-Some.ensures.value last.0 part in
    absurd (false≢true (sym h ∙ eq-eqb c.in-Some.end c.span-span.result (end ∙ decoded.end ∙ sym c.span-span.ensures)))
