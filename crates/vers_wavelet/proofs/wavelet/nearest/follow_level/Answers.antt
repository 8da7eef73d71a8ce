use Rattle.vers_wavelet.proofs.Names.{◌+◌, arith, sym, ◌∙◌, refl}
use Rattle.vers_wavelet.specs.declared.wavelet.nearest.Trail.{Trail}
use Rattle.vers_wavelet.proofs.Values.{next-up}
use Rattle.vers_wavelet.proofs.Trails.{same_bits, other_bits, follows_more, leaves_kept, leaves_new}
use Rattle.vers_wavelet.proofs.Walks.{level_length}
use Rattle.vers_wavelet.proofs.wavelet.nearest.follow_level.Goals as goal
use Rattle.vers_wavelet.proofs.wavelet.nearest.follow_level.Goals.{then-bit-is_up-via-then-bit-is_up, then-bit-is_up-via-else-bit-is_up+then-left}

pub returns-then-bit-is_up-clause-follows : goal.returns-then-bit-is_up-clause-follows
returns-then-bit-is_up-clause-follows g c = λ from to f.
    let long = level_length c.args.levels.now c.args.len _ _ c.requires.levels.even c.index-levels-k.is c.requires.inside in
    let part = c.part_of_bit-next.ensures in
    let trail : Trail = record { part = c.part_of_bit-next.result; beside = c.args.trail.beside } in
    follows_more _ _ _ from to _ c.requires.inside _ c.index-levels-k.is long _ c.digit-bit.ensures _ _ trail f part.start part.end part.less part.order part.few
    (leaves_kept _ _ _ from to _ c.requires.inside _ c.index-levels-k.is long _ c.digit-bit.ensures _ _ trail f part.start part.end part.less refl
    (λ other. elim c.then-bit-is_up.branch [
      | then-bit-is_up-via-then-bit-is_up w ↦ absurd (same_bits c.digit-bit.result c.args.is_up w.if-bit-is_up.true other)
      | then-bit-is_up-via-else-bit-is_up+then-left w ↦ sym c.chosen_position.ensures ∙ w.if-left.true ∙ c.chosen_position-2.ensures
    ]))

pub returns-clause-follows : goal.returns-clause-follows
returns-clause-follows g c = λ from to f.
    let long = level_length c.args.levels.now c.args.len _ _ c.requires.levels.even c.index-levels-k.is c.requires.inside in
    let part = c.part_of_bit-next.ensures in
    let trail : Trail = record { part = c.part_of_bit-next.result; beside = record { level = c.args.k + 1; start = c.chosen_position.result; end = c.chosen_position-2.result } } in
    follows_more _ _ _ from to _ c.requires.inside _ c.index-levels-k.is long _ c.digit-bit.ensures _ _ trail f part.start part.end part.less part.order part.few
    (leaves_new _ _ _ from to _ c.requires.inside _ c.index-levels-k.is long _ c.digit-bit.ensures _ _ trail f
    part.start part.end part.less refl c.chosen_position.ensures c.chosen_position-2.ensures (other_bits c.digit-bit.result c.args.is_up c.if-bit-is_up.false)
    (omega (arith, c.chosen_position.ensures, c.chosen_position-2.ensures, c.if-left.false, next-up c.args.is_up c.index-levels-k.result c.args.trail.part.start c.args.trail.part.end f.order)))

pub zeros_before_both-zeros-requires : goal.zeros_before_both-zeros-requires
zeros_before_both-zeros-requires g c = grind (arith, level_length)

pub chosen_position-requires : goal.chosen_position-requires
chosen_position-requires g c = grind (arith, level_length)

pub chosen_position-requires-2 : goal.chosen_position-requires-2
chosen_position-requires-2 g c = grind (arith, level_length)

pub part_of_bit-next-requires : goal.part_of_bit-next-requires
part_of_bit-next-requires g c = grind (arith, level_length)
