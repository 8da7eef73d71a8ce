use Rattle.vers_sorted.proofs.Names.{◌≡◌, ◌+◌, ◌*◌, ◌++◌, length, sym, ap, ◌∙◌, arith, length-packed, low_bits, pack, low_width, first_high_parts, first_low_parts}
use Rattle.vers_sorted.proofs.Lengths.{high_fits, low_fits}
use Rattle.vers_sorted.proofs.Gathers.{none_gathered, room_for_word, so_many}
use Rattle.vers_sorted.proofs.Makes.{taken_at, all_taken, taken_above, one_position, one_more, high_len_is, high_sum_fits, high_start, high_all, length-first_high_parts, low_start, low_length, low_all, low_next}
use Rattle.vers_sorted.proofs.elias_fano.make.parts_of.Goals as goal

pub high_length_of-high_len-requires : goal.high_length_of-high_len-requires
high_length_of-high_len-requires g c =
    omega (arith, high_sum_fits (g.N.Numbers.left c.args.numbers) c.args.len c.args.first c.args.last c.args.width c.requires.len c.requires.first c.requires.last c.requires.width (omega arith))

pub known_to_fit-requires : goal.known_to_fit-requires
known_to_fit-requires g c =
    λ e.
    let s = g.N.Numbers.left c.args.numbers in
    let high = high_len_is s c.args.len c.args.first c.args.last c.args.width _ c.requires.len c.requires.first c.requires.last c.requires.width c.high_length_of-high_len.ensures in
    let long = c.from_zeros.ensures.too_long.0 e in
    omega (arith, high, high_fits s (omega (arith, c.requires.len)), long)

pub overflow_mul-len : goal.overflow_mul-len
overflow_mul-len g c = grind (arith, low_fits)

pub loop-number-init : goal.loop-number-init
loop-number-init g c = grind (arith, high_start, high_len_is, none_gathered, low_start)

pub overflow_sub-above : goal.overflow_sub-above
overflow_sub-above g c =
    taken_above (g.N.Numbers.left c.args.numbers) _ _ c.loop-number.i c.in-Some.number c.args.first c.requires.ascending c.requires.first c.loop-number.invariant.left c.in-Some.ensures

pub overflow_add-above : goal.overflow_add-above
overflow_add-above g c =
    let s = g.N.Numbers.left c.args.numbers in
    let position = one_position s _ _ c.loop-number.i c.in-Some.number c.args.first c.args.width c.requires.ascending c.requires.first c.requires.width c.loop-number.invariant.left c.in-Some.ensures in
    record { fits = omega (arith, position.0, position.1, high_fits s (omega (arith, c.requires.len))) }

pub overflow_add-above-in-Some : goal.overflow_add-above-in-Some
overflow_add-above-in-Some g c =
    let s = g.N.Numbers.left c.args.numbers in
    let position = one_position s _ _ c.loop-number.i c.in-Some.number c.args.first c.args.width c.requires.ascending c.requires.first c.requires.width c.loop-number.invariant.left c.in-Some.ensures in
    record { fits = omega (arith, position.0, position.1, high_fits s (omega (arith, c.requires.len))) }

pub set_unchecked-requires : goal.set_unchecked-requires
set_unchecked-requires g c =
    let s = g.N.Numbers.left c.args.numbers in
    let position = one_position s _ _ c.loop-number.i c.in-Some.number c.args.first c.args.width c.requires.ascending c.requires.first c.requires.width c.loop-number.invariant.left c.in-Some.ensures in
    let total = ap length c.loop-number.invariant.high ∙ length-first_high_parts s c.loop-number.i in
    omega (arith, position.0, position.1, total)

pub add_part-gathered-requires-clause-room : goal.add_part-gathered-requires-clause-room
add_part-gathered-requires-clause-room g c =
    λ full.
    let s = g.N.Numbers.left c.args.numbers in
    let words = c.loop-number.words.items in
    let at = taken_at s _ _ c.loop-number.i c.in-Some.number c.loop-number.invariant.left c.in-Some.ensures in
    let here = so_many (pack words 64) (first_low_parts s c.loop-number.i) _ _ c.loop-number.invariant.low in
    let next : c.args.width * (c.loop-number.i + 1) ≡ c.args.width * c.loop-number.i + c.args.width = omega arith in
    let all : length s * c.args.width ≡ c.args.len * c.args.width = ap (λ k. k * c.args.width) (sym c.requires.len) in
    let fit = low_length s (c.loop-number.i + 1) c.args.width c.requires.width (omega (arith, at.0)) in
    let many = (low_length s c.loop-number.i c.args.width c.requires.width (omega (arith, at.0))).0 in
    let room = room_for_word words c.loop-number.gathered.len c.args.width (c.args.len * c.args.width) _ (omega (arith, here, many, next, fit.1, all)) full c.loop-number.invariant.capacity in
    omega (arith, room, c.loop-number.invariant.len)

pub loop-number-preserved : goal.loop-number-preserved
loop-number-preserved g c =
    let s = g.N.Numbers.left c.args.numbers in
    let at = taken_at s _ _ c.loop-number.i c.in-Some.number c.loop-number.invariant.left c.in-Some.ensures in
    record {
      left = at.2;
      within = omega (arith, at.0);
      high = one_more s _ _ c.loop-number.high _ c.loop-number.i c.in-Some.number c.args.first c.args.width c.requires.ascending c.requires.first c.requires.width
          c.loop-number.invariant.left c.in-Some.ensures c.loop-number.invariant.high c.set_unchecked.ensures;
      gathered = c.add_part-gathered.ensures.gathered;
      low = grind (arith, taken_at, low_next);
      len = c.add_part-gathered.ensures.len;
      capacity = rw c.add_part-gathered.ensures.capacity c.loop-number.invariant.capacity;
    }

pub returns-clause-high : goal.returns-clause-high
returns-clause-high g c =
    let s = g.N.Numbers.left c.args.numbers in
    let all = all_taken s _ _ c.loop-number.i c.loop-number.invariant.left c.loop-number.invariant.within c.in_default.ensures in
    c.loop-number.invariant.high ∙ ap (first_high_parts s) all ∙ high_all s

pub known_to_fit-requires-2 : goal.known_to_fit-requires-2
known_to_fit-requires-2 g c =
    λ e.
    let s = g.N.Numbers.left c.args.numbers in
    let words = c.loop-number.words.items in
    let here = so_many (pack words 64) (first_low_parts s c.loop-number.i) _ _ c.loop-number.invariant.low in
    let fit = low_length s c.loop-number.i c.args.width c.requires.width c.loop-number.invariant.within in
    let all : length s * c.args.width ≡ length s * low_width s = ap (λ k. length s * k) c.requires.width in
    omega (arith, here, fit.0, fit.1, all, length-packed (λ v. v) 64 words, low_fits s (omega (arith, c.requires.len)) (omega (arith, c.requires.last)), c.from_vec.ensures.too_long.0 e)

pub known_to_fit-requires-3 : goal.known_to_fit-requires-3
known_to_fit-requires-3 g c =
    λ e.
    let s = g.N.Numbers.left c.args.numbers in
    let made = rw c.in_ok-low.ensures at c.from_vec.ensures.made in
    let here = so_many (pack c.loop-number.words.items 64) (first_low_parts s c.loop-number.i) _ _ c.loop-number.invariant.low in
    let fit = low_length s c.loop-number.i c.args.width c.requires.width c.loop-number.invariant.within in
    let all : length s * c.args.width ≡ length s * low_width s = ap (λ k. length s * k) c.requires.width in
    omega (arith, here, ap length made, fit.0, fit.1, all, low_fits s (omega (arith, c.requires.len)) (omega (arith, c.requires.last)), c.append_bits.ensures.too_long.0 e)

pub returns-clause-low : goal.returns-clause-low
returns-clause-low g c =
    let s = g.N.Numbers.left c.args.numbers in
    let all = all_taken s _ _ c.loop-number.i c.loop-number.invariant.left c.loop-number.invariant.within c.in_default.ensures in
    let made = rw c.in_ok-low.ensures at c.from_vec.ensures.made in
    (rw c.in_ok-known_to_fit.ensures at c.append_bits.ensures.grown) ∙ ap (λ l. l ++ low_bits c.loop-number.gathered.word c.loop-number.gathered.len) made ∙ c.loop-number.invariant.low ∙ ap (first_low_parts s) all ∙ low_all s
