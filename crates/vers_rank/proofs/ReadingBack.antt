-- The word that a walk over positions from the back is reading.
use Rattle.vers_rank.proofs.Names.{◌≡◌, ℕ, ◌+◌, ◌-◌, ◌*◌, ◌/◌, ◌%◌, ◌^◌, ◌<◌, ◌≤◌, Bool, true, List, length, sym, ap, arith, w64, count_ones, bit_and, bit_at, bit_not, bit_at-zero, count, limb, select, highest_bit, count_up, count_none, count_le_all, select_at, select_is_position, count_more_yes, IsReadingBack, marked, count_leading_zeros, Reader, held_in}
use Rattle.vers_rank.specs.inside.Walks.{IsWithin}
use Rattle.vers_rank.proofs.Words.{one_more}
use Rattle.vers_rank.proofs.Marks.{IsCut, ones_stay, one_between, some_word, cut_to, cut_highest, whole_marked, marked_cut, ones_within, position_of}

module _ {b : Bool} {l : List Bool} {reader : Reader} (is : IsReadingBack b l reader) where
  ones_back : count b l (64 * reader.limb) + count_ones reader.word ≡ reader.next
  ones_back = let e : reader.word % 2 ^ 64 ≡ reader.word = omega (arith, is.marks.fits) in omega (arith, ones_within is.marks (omega arith) 64 (omega arith) (λ i h. is.within i h), ap count_ones e, is.after, is.before)

  -- the ones up to one of the word's positions
  reading_to : (v t r : ℕ) → IsCut reader.word v 0 t → t ≤ 64 → count b l (64 * reader.limb + t) ≡ r → r ≤ reader.next → IsReadingBack b l (record reader { word = v; next = r })
  reading_to v t r cut few end down =
      let all = marked_cut is.marks v 0 t 0 r cut (grind arith) (omega (arith, end, down, count_up b l (64 * reader.limb + t) (64 * reader.limb + 64) (omega arith))) in
      grind (arith, is, count_up b l (64 * reader.limb) (64 * reader.limb + t) (omega arith), all, cut.only)

  position_at : (q r : ℕ) → q < 64 → bit_at reader.word q ≡ 1 → count b l (64 * reader.limb) + count_ones (reader.word % 2 ^ q) ≡ r → r < reader.next → (IsWithin b l 0 reader.next (64 * reader.limb + q)) × (count b l (64 * reader.limb + q) ≡ r)
  position_at q r small on number some = position_of is.marks (omega arith) q r small (omega (arith, is.after, count_le_all b l (64 * reader.limb + 64))) is.inside on (omega (arith, is.before)) some

  module _ (end : ℕ) (from : reader.edge < end) (to : end ≤ reader.next) where
    pub passed_back : count_ones reader.word ≤ reader.next - end → (0 < reader.limb) × (64 * (reader.limb - 1) < length l) × ((reader.limb - 1) / 8 ≡ reader.limb / 8)
    passed_back few =
        let inside : 512 * (reader.limb / 8) < 64 * reader.limb = grind (arith, ones_back, is.in_block) in
        (omega arith, omega (arith, is.inside), omega arith)

    pub limb_before : (v ones : ℕ) → ones ≡ count_ones reader.word → ones ≤ reader.next - end → v ≡ marked b (limb l (reader.limb - 1)) → IsReadingBack b l (record reader { word = v; limb = reader.limb - 1; next = reader.next - ones })
    limb_before v ones all few word =
        let k = reader.limb - 1 in
        let back = passed_back (omega arith) in
        let start : 64 * k + 64 ≡ 64 * reader.limb = omega (arith, back.0) in
        let same : count b l (64 * k + 64) ≡ reader.next - ones = omega (arith, ap (count b l) start, ones_back) in
        grind (arith, is, back, count_up b l (64 * k) (64 * k + 64) (omega arith), rw (← word) at (whole_marked b l k 0 (reader.next - ones) (omega arith) (omega (arith, same))))

    pub backward : (q : ℕ) → q < 64 → held_in true reader.word q ≤ count_ones reader.word - 1 - (reader.next - end) → count_ones reader.word - 1 - (reader.next - end) < held_in true reader.word (q + 1) → reader.next - end < count_ones reader.word
        → (IsReadingBack b l (record reader { word = bit_and reader.word (18446744073709551615 / 2 ^ (63 - q)); next = end })) × (0 < bit_and reader.word (18446744073709551615 / 2 ^ (63 - q)))
    unfolding held_in
    backward q small low high some =
        let cut = cut_to reader.word q small in
        let on = one_between reader.word q (count_ones reader.word - 1 - (reader.next - end)) low high in
        let at = position_at q (end - 1) small on.0 (omega (arith, on.1, ones_back)) (omega arith) in
        let e : 64 * reader.limb + (q + 1) ≡ 64 * reader.limb + q + 1 = omega arith in
        (reading_to _ (q + 1) end cut (omega arith) (omega (arith, ap (count b l) e, count_more_yes b l (64 * reader.limb + q) at.0.inside at.0.holds, at.1)) to, some_word _ q (cut.all q small (omega arith) (omega arith) on.0))

-- ---- the highest one of the word
module _ (b : Bool) (l : List Bool) (reader : Reader) (r : ℕ) (here : reader.next ≡ r + 1) (some : r < count b l (length l)) (is : IsReadingBack b l reader) (left : 0 < reader.word) where
  abbrev highest : ℕ
  highest = 63 - count_leading_zeros 64 reader.word

  at_highest : (IsWithin b l 0 reader.next (64 * reader.limb + highest)) × (count b l (64 * reader.limb + highest) ≡ r)
  at_highest =
      let top = highest_bit reader.word left is.marks.fits in
      let e : highest + 1 + (63 - highest) ≡ 64 = omega (arith, top.0) in
      let whole : reader.word % 2 ^ 64 ≡ reader.word = omega (arith, is.marks.fits) in
      let all = ap (λ n. count_ones (reader.word % 2 ^ n)) e in
      position_at is highest r (omega (arith, top.0)) top.1 (omega (arith, ones_back is, ones_stay reader.word (highest + 1) (63 - highest) (λ i low _. top.2 i (omega arith)), all, ap count_ones whole, one_more reader.word highest, top.1)) (omega arith)

  pub highest_at : 64 * reader.limb + highest ≡ select b l r
  highest_at = sym (select_at b l r (64 * reader.limb + highest) at_highest.0.inside at_highest.0.holds at_highest.1)

  -- the word without its highest one
  pub rest_back_at : IsReadingBack b l (record reader { word = bit_and reader.word (bit_not w64 (1 * 2 ^ (63 - count_leading_zeros 64 reader.word) % 18446744073709551616)); next = r })
  rest_back_at = reading_to is _ highest r (cut_highest reader.word left is.marks.fits) (omega (arith, at_highest)) at_highest.1 (omega arith)

  -- the position is in a list, and a list is not as long as a word can count
  pub highest_fits : {m : List Bool} → length m ≤ 18446744073709551552 → m ≡ l → 64 * reader.limb + highest < 18446744073709551552
  highest_fits bounded view = omega (arith, ap length view, at_highest.0.inside)

pub ruleset highests = (highest_at, highest_fits)

-- ---- a limb anew
pub new_back : (b : Bool) (l : List Bool) (r k q edge : ℕ) → r < count b l (length l) → 64 * k + q ≡ select b l r → q < 64 → edge ≡ count b l (512 * (k / 8))
    → (IsReadingBack b l (record { word = bit_and (marked b (limb l k)) (18446744073709551615 / 2 ^ (63 - q)); limb = k; next = r + 1; edge = edge })) × (0 < bit_and (marked b (limb l k)) (18446744073709551615 / 2 ^ (63 - q)))
new_back b l r k q edge some position small begin =
    let at = rw (← position) at (select_is_position b l r some) in
    let e : 64 * k + (q + 1) ≡ 64 * k + q + 1 = omega arith in
    let more : count b l (64 * k + (q + 1)) ≡ r + 1 = omega (arith, ap (count b l) e, count_more_yes b l (64 * k + q) at.within at.holds, at.before) in
    let whole = whole_marked b l k 0 (count b l (length l)) (omega arith) (count_le_all b l (64 * k + 64)) in
    let cut = cut_to (marked b (limb l k)) q small in
    let on = whole.complete q small (record { inside = at.within; holds = at.holds; low = omega arith; high = omega (arith, at.before) }) in
    let up = count_up b l (64 * k) (64 * k + q) (omega arith) in
    let end = count_up b l (64 * k + (q + 1)) (64 * k + 64) (omega arith) in
    (grind (arith, at, up, end, more, begin, cut.only, marked_cut whole _ 0 (q + 1) 0 (r + 1) cut (grind arith) (omega (arith, more, end, count_le_all b l (64 * k + 64)))), some_word _ q (cut.all q small (omega arith) (omega arith) on))

pub no_reading_back : (b : Bool) (l : List Bool) → IsReadingBack b l (record { word = 0; limb = 0; next = 0; edge = 0 })
no_reading_back b l = grind (arith, count_none b l, bit_at-zero)
