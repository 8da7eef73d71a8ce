use Rattle.vers_wavelet.proofs.Names.{◌≡◌, ◌+◌, ◌-◌, ◌*◌, ◌^◌, ◌<◌, ℕ, arith, length, ap, refl, sym, true≢false, ◌∙◌, Some, bit_value, rank_reads, adds_times}
use Rattle.vers_wavelet.proofs.Trails.{found_same, found_none, found_beside}
use Rattle.vers_wavelet.proofs.Walks.{adds_fewer}
use Rattle.vers_wavelet.proofs.wavelet.nearest.find_nearest.Goals as goal

pub returns-then-trail : goal.returns-then-trail
returns-then-trail g c =
    let trail = c.follow-trail in
    record {
      found = λ t.
          found_same c.requires.levels c.args.is_up (g.D.Digits.number c.args.symbol.now) c.args.start c.args.end trail.result.part.start trail.result.part.end trail.result.part.less _
          c.requires.order c.requires.within c.if-trail.true trail.ensures.kept trail.ensures.less c.copy_digits.ensures.value;
      none = λ f. absurd (true≢false f);
      same = c.copy_digits.ensures.same;
      adds = adds_fewer (2 * length c.args.levels.now) (4 * length c.args.levels.now) (omega arith) trail.ensures.adds;
    }

pub returns-then-beside : goal.returns-then-beside
returns-then-beside g c =
    let trail = c.follow-trail in
    record {
      found = λ t. absurd (true≢false (sym t));
      none = λ t.
          found_none c.requires.levels (g.D.Digits.number c.args.symbol.now) c.args.start c.args.end trail.result c.requires.order c.requires.within c.if-trail.false trail.ensures.order trail.ensures.kept
          trail.ensures.less c.args.is_up trail.ensures.leaves c.if-beside.true;
      same = refl;
      adds = adds_fewer (2 * length c.args.levels.now) (4 * length c.args.levels.now) (omega arith) trail.ensures.adds;
    }

pub write_beside-requires : goal.write_beside-requires
write_beside-requires g c =
    let leaves = c.follow-trail.ensures.leaves in
    let some : c.follow-trail.result.beside.start < c.follow-trail.result.beside.end = omega (arith, leaves.order, c.if-beside.false) in
    record { levels = c.requires.levels.even; some = some; within = leaves.within; deep = (leaves.some some).0; fits = (leaves.some some).1; symbol = c.requires.symbol; zero = c.requires.zero; wide = c.requires.wide }

pub returns : goal.returns
returns g c =
    let trail = c.follow-trail in
    let leaves = trail.ensures.leaves in
    let some : trail.result.beside.start < trail.result.beside.end = omega (arith, leaves.order, c.if-beside.false) in
    let wrote = c.write_beside.ensures.value in
    let from : ℕ = wrote.0 + bit_value c.args.is_up * 2 ^ (length c.args.levels.now - trail.result.beside.level) in
    let x : ℕ = g.D.Digits.number c.write_beside.new.answer - from in
    let whole : from + x ≡ g.D.Digits.number c.write_beside.new.answer = omega (arith, wrote.2) in
    record {
      found = λ t.
          found_beside c.requires.levels (g.D.Digits.number c.args.symbol.now) c.args.start c.args.end trail.result c.requires.order c.requires.within c.if-trail.false trail.ensures.order trail.ensures.kept
          trail.ensures.less c.args.is_up wrote.0 x leaves some wrote.1 wrote.3 ∙ ap Some whole;
      none = λ f. absurd (true≢false f);
      same = c.write_beside.ensures.same;
      adds = adds_fewer (2 * length c.args.levels.now + 2 * length c.args.levels.now) (4 * length c.args.levels.now) (omega arith) (adds_times (2 * length c.args.levels.now) (2 * length c.args.levels.now) rank_reads trail.ensures.adds c.write_beside.ensures.adds);
    }

pub follow-trail-requires : goal.follow-trail-requires
follow-trail-requires g c = record { levels = c.requires.levels; order = c.requires.order; within = c.requires.within; wide = c.requires.symbol }

pub copy_digits-requires : goal.copy_digits-requires
copy_digits-requires g c = record { order = omega arith; from = c.requires.symbol; to = c.requires.wide; zero = c.requires.zero }
