use Rattle.vers_wavelet.proofs.Names.{◌≡◌, ◌+◌, ◌-◌, ◌*◌, ◌^◌, ℕ, arith, length, drop, sym, length-drop, bit_value}
use Rattle.vers_wavelet.proofs.Digits.{room_more}
use Rattle.vers_wavelet.proofs.Steps.{even_drop, levels_from}
use Rattle.vers_wavelet.proofs.wavelet.nearest.write_beside.Goals as goal

pub find_kth-requires-clause-room : goal.find_kth-requires-clause-room
find_kth-requires-clause-room g c =
    let put = c.put_digit.ensures in
    let long : length (drop c.args.beside.level c.args.levels.now) ≡ length c.args.levels.now - c.args.beside.level = length-drop c.args.beside.level c.args.levels.now in
    rw (levels_from c.args.levels.now c.args.beside.level, long, put.same, put.value) (room_more c.args.is_up _ _ _ c.copy_digits.ensures.room)

pub find_kth-requires-clause-levels : goal.find_kth-requires-clause-levels
find_kth-requires-clause-levels g c =
    rw (levels_from c.args.levels.now c.args.beside.level) (even_drop c.args.levels.now c.args.len c.requires.levels c.args.beside.level)

pub returns-clause-value : goal.returns-clause-value
returns-clause-value g c =
    let number : ℕ = g.D.Digits.number c.copy_digits.new.to in
    let from : number + bit_value c.args.is_up * 2 ^ (length c.args.levels.now - c.args.beside.level) ≡ g.D.Digits.number c.put_digit.new.self = sym c.put_digit.ensures.value in (
      number,
      c.copy_digits.ensures.value,
      omega (arith, from, c.find_kth.ensures.grows),
      rw (from, ← c.first_or_last-i.ensures.value) (rw (levels_from c.args.levels.now c.args.beside.level) at c.find_kth.ensures.value),
    )
