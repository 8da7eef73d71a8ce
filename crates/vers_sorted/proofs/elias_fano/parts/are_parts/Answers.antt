use Rattle.vers_sorted.proofs.Names.{true, false, ◌≡◌, ◌-◌, ◌*◌, ◌<◌, ◌∙◌, ap, refl, arith, eqb-true, width}
use Rattle.vers_sorted.proofs.Parted.{counted_of, empty_parts, ends_up, high_count_some, list_decoded, decoded_of}
use Rattle.vers_sorted.proofs.elias_fano.parts.are_parts.Goals as goal
use Rattle.vers_sorted.proofs.elias_fano.parts.are_parts.Goals.{then-ends-via-else-ends+then-count_ones_in-ends, then-ends-via-then-ends, then-low_bits-lengths-via-else-low_bits-lengths+then-high_bits-lengths, then-low_bits-lengths-via-then-low_bits-lengths}

pub returns-in_default-clause-no : goal.returns-in_default-clause-no
returns-in_default-clause-no g c = λ no s h parts.
    let counts = counted_of s _ _ _ _ _ parts in
    c.in_default.ensures.none refl (omega (arith, counts.0, c.len-low_bits.ensures.value, c.len-low_bits.ensures.bounded))
    (omega (arith, counts.1, c.len-high_bits.ensures.value, c.len-high_bits.ensures.bounded))

pub returns-then-low_bits-lengths-clause-no : goal.returns-then-low_bits-lengths-clause-no
returns-then-low_bits-lengths-clause-no g c = λ no s h parts.
    let counts = counted_of s _ _ _ _ _ parts in
    elim c.then-low_bits-lengths.branch [
      | then-low_bits-lengths-via-then-low_bits-lengths w ↦
          absurd (omega (arith, counts.0, w.if-low_bits-lengths.true, c.in-Some.ensures.low, c.len-low_bits.ensures.value))
      | then-low_bits-lengths-via-else-low_bits-lengths+then-high_bits-lengths w ↦
          absurd (omega (arith, counts.1, w.if-high_bits-lengths.true, c.in-Some.ensures.high, c.len-high_bits.ensures.value))
    ]

pub returns-then-ends-eq0-2-clause-yes : goal.returns-then-ends-eq0-2-clause-yes
returns-then-ends-eq0-2-clause-yes g c = λ h.
    empty_parts c.args.rising c.args.ends.len c.args.ends.first c.args.ends.last (c.args.ends.last - c.args.ends.first) (g.L.Limbs.bits c.args.low.now) (g.H.Limbs.bits c.args.high.now)
    c.if-ends-eq0.true c.if-ends-eq0-2.true (eqb-true c.args.ends.last 0 h)
    (omega (arith, c.if-low_bits-lengths.false, c.in-Some.ensures.low, c.len-low_bits.ensures.value))
    (omega (arith, c.if-high_bits-lengths.false, c.in-Some.ensures.high, c.len-high_bits.ensures.value))

pub returns-then-ends-clause-no : goal.returns-then-ends-clause-no
returns-then-ends-clause-no g c = λ no s h parts.
    let ends = ends_up c.args.rising s _ _ _ _ _ h parts in
    elim c.then-ends.branch [
      | then-ends-via-then-ends w ↦ absurd (omega (arith, ends.0, w.if-ends.true))
      | then-ends-via-else-ends+then-count_ones_in-ends w ↦ absurd (omega (arith, ends.1, w.count_ones_in.ensures, w.if-count_ones_in-ends.true))
    ]

pub returns-then-rising-clause-yes : goal.returns-then-rising-clause-yes
returns-then-rising-clause-yes g c = λ h.
    let span = c.args.ends.last - c.args.ends.first in
    let some : 0 < c.args.ends.len = omega (arith, c.if-ends-eq0.false) in
    let wide : c.width_of-width.result ≡ width c.args.ends.len span = c.width_of-width.ensures.value ∙ ap (width c.args.ends.len) c.span.ensures in
    rw c.if-rising.true (list_decoded true (g.H.Limbs.bits c.args.high.now) (g.L.Limbs.bits c.args.low.now) c.args.ends.first span c.width_of-width.result c.args.ends.len some wide
    (omega (arith, c.if-low_bits-lengths.false, c.in-Some.ensures.low, c.len-low_bits.ensures.value, ap (λ k. c.args.ends.len * k) wide))
    (omega (arith, c.if-high_bits-lengths.false, c.in-Some.ensures.high, c.len-high_bits.ensures.value, high_count_some c.args.ends.len span c.width_of-width.result some wide))
    (omega (arith, c.count_ones_in.ensures, c.if-count_ones_in-ends.false))
    (c.are_decodable.ensures.yes h) c.args.ends.last (omega (arith, c.if-ends.false)))

pub returns-then-rising-clause-no : goal.returns-then-rising-clause-no
returns-then-rising-clause-no g c = λ no s h parts.
    c.are_decodable.ensures.no no (decoded_of true s c.args.ends.len c.args.ends.first c.args.ends.last c.width_of-width.result (g.L.Limbs.bits c.args.low.now) (g.H.Limbs.bits c.args.high.now) (rw c.if-rising.true at h) parts (omega (arith, c.if-ends-eq0.false))
    (c.width_of-width.ensures.value ∙ ap (width c.args.ends.len) c.span.ensures))

pub returns-else-rising-clause-yes : goal.returns-else-rising-clause-yes
returns-else-rising-clause-yes g c = λ h.
    let span = c.args.ends.last - c.args.ends.first in
    let some : 0 < c.args.ends.len = omega (arith, c.if-ends-eq0.false) in
    let wide : c.width_of-width.result ≡ width c.args.ends.len span = c.width_of-width.ensures.value ∙ ap (width c.args.ends.len) c.span.ensures in
    rw c.if-rising.false (list_decoded false (g.H.Limbs.bits c.args.high.now) (g.L.Limbs.bits c.args.low.now) c.args.ends.first span c.width_of-width.result c.args.ends.len some wide
    (omega (arith, c.if-low_bits-lengths.false, c.in-Some.ensures.low, c.len-low_bits.ensures.value, ap (λ k. c.args.ends.len * k) wide))
    (omega (arith, c.if-high_bits-lengths.false, c.in-Some.ensures.high, c.len-high_bits.ensures.value, high_count_some c.args.ends.len span c.width_of-width.result some wide))
    (omega (arith, c.count_ones_in.ensures, c.if-count_ones_in-ends.false))
    (c.are_decodable-else-rising.ensures.yes h) c.args.ends.last (omega (arith, c.if-ends.false)))

pub returns-else-rising-clause-no : goal.returns-else-rising-clause-no
returns-else-rising-clause-no g c = λ no s h parts.
    c.are_decodable-else-rising.ensures.no no (decoded_of false s c.args.ends.len c.args.ends.first c.args.ends.last c.width_of-width.result (g.L.Limbs.bits c.args.low.now) (g.H.Limbs.bits c.args.high.now) (rw c.if-rising.false at h) parts (omega (arith, c.if-ends-eq0.false))
    (c.width_of-width.ensures.value ∙ ap (width c.args.ends.len) c.span.ensures))
