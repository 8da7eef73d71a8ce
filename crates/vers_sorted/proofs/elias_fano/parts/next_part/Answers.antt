use Rattle.vers_sorted.proofs.Names.{◌≡◌, ◌+◌, ◌-◌, ◌*◌, ◌∙◌, ap, arith, take, drop, number}
use Rattle.vers_bits.specs.Bits.{limb}
use Rattle.vers_sorted.proofs.Decoding.{first_part, rest_part, joined_bits}
use Rattle.vers_sorted.specs.inside.Decoding.{position_ahead}
use Rattle.vers_sorted.proofs.elias_fano.parts.next_part.Goals as goal

pub returns-then-bits-width-clause-value : goal.returns-then-bits-width-clause-value
returns-then-bits-width-clause-value g c =
    first_part (g.L.Limbs.bits c.args.low.now) (position_ahead c.args.bits.now) c.args.bits.now.len c.args.width c.args.bits.now.word c.requires.narrow c.if-bits-width.true c.requires.read.read

pub returns-then-bits-width-clause-read : goal.returns-then-bits-width-clause-read
returns-then-bits-width-clause-read g c =
    let low = g.L.Limbs.bits c.args.low.now in
    let at : position_ahead c.args.bits.now + c.args.width ≡ 64 * c.args.bits.now.limbs - (c.args.bits.now.len - c.args.width) = omega (arith, c.requires.read.few, c.if-bits-width.true) in
    record {
      few = omega (arith, c.requires.read.few);
      read = rest_part low (position_ahead c.args.bits.now) c.args.bits.now.len c.args.width c.args.bits.now.word c.if-bits-width.true c.requires.read.read
          ∙ ap (λ p. number (take (c.args.bits.now.len - c.args.width) (drop p low))) at;
    }

pub returns-clause-value : goal.returns-clause-value
returns-clause-value g c =
    let low = g.L.Limbs.bits c.args.low.now in
    first_part low (position_ahead c.args.bits.now) 64 c.args.width _ c.requires.narrow (omega (arith, c.requires.narrow))
    (joined_bits low (position_ahead c.args.bits.now) c.args.bits.now.len c.args.bits.now.limbs c.args.bits.now.word c.limb-next.result (omega (arith, c.if-bits-width.false, c.requires.narrow)) (omega (arith, c.requires.read.few)) c.requires.read.read c.limb-next.ensures)

pub returns-clause-read : goal.returns-clause-read
unfolding limb
returns-clause-read g c =
    let low = g.L.Limbs.bits c.args.low.now in
    let rest = c.args.width - c.args.bits.now.len in
    let len : 64 - rest ≡ c.args.bits.now.len + 64 - c.args.width = omega (arith, c.if-bits-width.false, c.requires.narrow) in
    let at : 64 * c.args.bits.now.limbs + rest ≡ 64 * (c.args.bits.now.limbs + 1) - (c.args.bits.now.len + 64 - c.args.width) = omega (arith, c.if-bits-width.false, c.requires.narrow) in
    record {
      few = omega (arith, c.if-bits-width.false);
      read = rest_part low (64 * c.args.bits.now.limbs) 64 rest c.limb-next.result (omega (arith, c.requires.narrow)) c.limb-next.ensures
          ∙ ap (λ m. number (take m (drop (64 * c.args.bits.now.limbs + rest) low))) len ∙ ap (λ p. number (take (c.args.bits.now.len + 64 - c.args.width) (drop p low))) at;
    }
