use Rattle.vers_wavelet.proofs.Names.{◌≡◌, ◌-◌, ◌%◌, ◌^◌, ℕ, arith, ap, ◌∙◌, refl}
use Rattle.vers_wavelet.proofs.Digits.{room_none, room_left, room_more}
use Rattle.vers_wavelet.proofs.Steps.{digit_from}
use Rattle.vers_wavelet.proofs.wavelet.digits.copy_digits.Goals as goal

pub loop-i-init : goal.loop-i-init
loop-i-init g c =
    let e : c.args.high - 0 ≡ c.args.high = omega arith in
    record {
      room = rw (c.requires.zero) (room_none (g.D.Digits.width c.args.to.now) (c.args.high - 0) (omega (arith, c.requires.to)));
      same = refl;
      copied = omega (arith, c.requires.zero, ap (λ n. g.D.Digits.number c.args.from.now % 2 ^ n) e);
    }

pub loop-i-preserved : goal.loop-i-preserved
loop-i-preserved g c =
    let s : ℕ = g.D.Digits.number c.args.from.now in
    let room = room_left c.args.high c.loop-i.i (omega arith) c.loop-i.invariant.room in
    let put = c.put_digit.ensures in
    let top = rw (← c.digit-bit.ensures) at (digit_from s c.args.high c.loop-i.i (omega arith)) in
    record {
      room = rw (put.same, put.value) (room_more c.digit-bit.result _ _ _ room);
      same = put.same ∙ c.loop-i.invariant.same;
      copied = omega (arith, put.value, top, c.loop-i.invariant.copied);
    }
