-- The word that a walk over positions is reading.
use Rattle.vers_rank.proofs.Names.{◌≡◌, ℕ, ◌+◌, ◌-◌, ◌*◌, ◌/◌, ◌%◌, ◌^◌, ◌<◌, ◌≤◌, Bool, true, List, length, sym, ap, ◌∙◌, refl, arith, w64, count_ones, bit_and, bit_at, bit_not, trailing_zeros, bit_at-trailing_zeros, count, limb, select, count_up, count_past, count_none, count_le_all, select_at, select_is_position, count_more_yes, IsReading, marked, Reader, held_in}
use Rattle.vers_rank.specs.inside.Walks.{IsWithin}
use Rattle.vers_rank.proofs.Words.{ones_few}
use Rattle.vers_rank.proofs.Marks.{IsCut, ones_stay, one_between, some_word, cut_from, cut_lowest, whole_marked, marked_cut, ones_within, ones_past, position_of}

module _ {b : Bool} {l : List Bool} {reader : Reader} (is : IsReading b l reader) (known : 0 < reader.edge) where
  -- the ones from one of the word's positions on
  reading_from : (v s r : ℕ) → IsCut reader.word v s 64 → s ≤ 64 → count b l (64 * reader.limb + s) ≡ r → reader.next ≤ r → IsReading b l (record reader { word = v; next = r })
  reading_from v s r cut small start up =
      let all = marked_cut (is.marks known) v s 64 r (count b l (length l)) cut (omega (arith, start, up, count_up b l (64 * reader.limb) (64 * reader.limb + s) (omega arith))) refl in
      grind (arith, is, known, count_up b l (64 * reader.limb + s) (64 * reader.limb + 64) (omega arith), all)

  module _ (r : ℕ) (from : reader.next ≤ r) (some : r < count b l (length l)) where
    position_at : (q : ℕ) → q < 64 → bit_at reader.word q ≡ 1 → reader.next + count_ones (reader.word % 2 ^ q) ≡ r → (IsWithin b l reader.next (count b l (length l)) (64 * reader.limb + q)) × (count b l (64 * reader.limb + q) ≡ r)
    position_at q small on number = position_of (is.marks known) (omega arith) q r small (omega arith) (grind (arith, is.before, count_past)) on (omega (arith, is.before)) some

    pub onward : (q : ℕ) → q < 64 → held_in true reader.word q ≤ r - reader.next → r - reader.next < held_in true reader.word (q + 1)
        → (IsReading b l (record reader { word = bit_and reader.word (18446744073709551615 * 2 ^ q % 18446744073709551616); next = r })) × (0 < bit_and reader.word (18446744073709551615 * 2 ^ q % 18446744073709551616))
    unfolding held_in
    onward q small low high =
        let cut = cut_from reader.word q small in
        let on = one_between reader.word q (r - reader.next) low high in
        (reading_from _ q r cut (omega arith) (position_at q small on.0 (omega (arith, on.1))).1 from, some_word _ q (cut.all q small (omega arith) small on.0))

-- a limb whole
whole_reading : (b : Bool) (l : List Bool) (k n edge : ℕ) → count b l (64 * k) ≡ n → 0 < edge → edge ≤ count b l (512 * (k / 8) + 512) → IsReading b l (record { word = marked b (limb l k); limb = k; next = n; edge = edge })
whole_reading b l k n edge start known within =
    grind (arith, count_up b l (64 * k) (64 * k + 64) (omega arith), whole_marked b l k n (count b l (length l)) (omega arith) (count_le_all b l (64 * k + 64)))

-- if the word has fewer ones, the limb ends before number r
module _ {b : Bool} {l : List Bool} {reader : Reader} (is : IsReading b l reader) (r : ℕ) (from : reader.next ≤ r) (to : r < reader.edge) (ones : ℕ) (all : ones ≡ count_ones reader.word) (few : ones ≤ r - reader.next) where
  passed : (64 * reader.limb + 64 < length l) × (count b l (64 * reader.limb + 64) ≡ reader.next + ones)
  passed =
      let marks = is.marks (omega arith) in
      let some : r < count b l (length l) = omega (arith, is.in_block, count_le_all b l (512 * (reader.limb / 8) + 512)) in
      let whole : reader.word % 2 ^ 64 ≡ reader.word = omega (arith, marks.fits) in
      let sums = rw whole at (ones_within marks (omega arith) 64 (omega arith)) in
      let past = rw whole at (ones_past marks (omega arith) 64 (omega arith) (grind (arith, is.before, count_past))) in
      let inside : 64 * reader.limb + 64 < length l = grind (arith, is.before, past) in
      (inside, omega (arith, sums (λ i h _. omega arith), is.before, is.after, count_le_all b l (64 * reader.limb + 64)))

  pub passed_inside : (64 * (reader.limb + 1) < length l) × ((reader.limb + 1) / 8 ≡ reader.limb / 8)
  passed_inside = (omega (arith, passed), grind (arith, passed, is.in_block, count_up b l (512 * (reader.limb / 8) + 512) (64 * reader.limb + 64)))

  pub next_limb : (v : ℕ) → v ≡ marked b (limb l (reader.limb + 1)) → IsReading b l (record reader { word = v; limb = reader.limb + 1; next = reader.next + ones })
  next_limb v word =
      let start : 64 * (reader.limb + 1) ≡ 64 * reader.limb + 64 = omega arith in
      rw word (whole_reading b l (reader.limb + 1) _ reader.edge (ap (count b l) start ∙ passed.1) (omega arith) (rw passed_inside.1 is.in_block))

pub whole_word : (w r : ℕ) → w < 18446744073709551616 → r < count_ones w → r < held_in true w 64
unfolding held_in
whole_word w r fits h = let e : w % 2 ^ 64 ≡ w = omega arith in omega (arith, ap count_ones e)

-- ---- the lowest one of the word
module _ {b : Bool} {l : List Bool} {reader : Reader} {r : ℕ} (here : reader.next ≡ r) (some : r < count b l (length l)) (is : IsReading b l reader) (left : 0 < reader.word) where
  abbrev lowest : ℕ
  lowest = trailing_zeros w64 reader.word

  fits : reader.word < 18446744073709551616
  fits = (is.marks (is.begun left)).fits

  at_lowest : (IsWithin b l reader.next (count b l (length l)) (64 * reader.limb + lowest)) × (count b l (64 * reader.limb + lowest) ≡ r)
  at_lowest =
      let low = bit_at-trailing_zeros w64 reader.word left fits in
      let e : 0 + lowest ≡ lowest = omega arith in
      position_at is (is.begun left) r (omega arith) some lowest low.0 low.1 (omega (arith, ones_stay reader.word 0 lowest (λ i _ h. low.2 i (omega arith)), ap (λ n. count_ones (reader.word % 2 ^ n)) e, ones_few reader.word 0))

  pub lowest_at : 64 * reader.limb + trailing_zeros w64 reader.word ≡ select b l r
  lowest_at = sym (select_at b l r (64 * reader.limb + lowest) at_lowest.0.inside at_lowest.0.holds at_lowest.1)

  pub rest_at : IsReading b l (record reader { word = bit_and reader.word (bit_not w64 (1 * 2 ^ trailing_zeros w64 reader.word % 18446744073709551616)); next = reader.next + 1 })
  rest_at =
      let e : 64 * reader.limb + (lowest + 1) ≡ 64 * reader.limb + lowest + 1 = omega arith in
      reading_from is (is.begun left) _ (lowest + 1) (reader.next + 1) (cut_lowest reader.word left fits) (omega (arith, (bit_at-trailing_zeros w64 reader.word left fits).0))
      (omega (arith, ap (count b l) e, count_more_yes b l (64 * reader.limb + lowest) at_lowest.0.inside at_lowest.0.holds, at_lowest.1)) (omega arith)

  -- the position is in a list, and a list is not as long as a word can count
  pub lowest_fits : {m : List Bool} → length m ≤ 18446744073709551552 → m ≡ l → 64 * reader.limb + trailing_zeros w64 reader.word < 18446744073709551552
  lowest_fits bounded view = omega (arith, ap length view, at_lowest.0.inside)

-- ---- a limb anew
pub new_reading : (b : Bool) (l : List Bool) (r k q edge : ℕ) → r < count b l (length l) → 64 * k + q ≡ select b l r → q < 64 → edge ≡ count b l (512 * (k / 8 + 1))
    → (IsReading b l (record { word = bit_and (marked b (limb l k)) (18446744073709551615 * 2 ^ q % 18446744073709551616); limb = k; next = r; edge = edge })) × (0 < bit_and (marked b (limb l k)) (18446744073709551615 * 2 ^ q % 18446744073709551616))
new_reading b l r k q edge some position small end =
    let at = rw (← position) at (select_is_position b l r some) in
    let more = count_more_yes b l (64 * k + q) at.within at.holds in
    let up = count_up b l (64 * k) (64 * k + q) (omega arith) in
    let next = count_up b l (64 * k + q + 1) (512 * (k / 8 + 1)) (omega arith) in
    let block : 512 * (k / 8 + 1) ≡ 512 * (k / 8) + 512 = omega arith in
    let known : 0 < edge = omega (arith, at.before) in
    let whole = whole_reading b l k (count b l (64 * k)) edge refl known (omega (arith, ap (count b l) block)) in
    let cut = cut_from (marked b (limb l k)) q small in
    let on = (whole.marks known).complete q small (record { inside = at.within; holds = at.holds; low = up; high = omega (arith, at.before) }) in
    (reading_from whole known _ q r cut (omega arith) at.before (omega (arith, at.before)), some_word _ q (cut.all q small (omega arith) small on))

pub no_reading : (b : Bool) (l : List Bool) → IsReading b l (record { word = 0; limb = 0; next = 0; edge = 0 })
no_reading b l = grind (arith, count_none b l)
