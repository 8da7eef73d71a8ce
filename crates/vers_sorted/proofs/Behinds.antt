-- The ones of the high parts that were read back from an element.
use Rattle.vers_sorted.proofs.Names.{◌≡◌, ℕ, ◌+◌, ◌-◌, ◌%◌, ◌*◌, ◌^◌, ◌<◌, ◌≤◌, Bool, true, false, List, length, take, drop, get_or, sym, ap, ◌∙◌, arith, Option, Some, None, w64, unwrap_or, bit_at, IsNonDecreasing, get_or_past, length-take, number, count, select, highest_bit, bit_at-number, select_at, count_at_select, count_more_yes, part_bit, value_none, value_one, part_number_or_zero, high_parts, high_position, IsPacked, count_leading_zeros}
use Rattle.vers_sorted.specs.declared.elias_fano.ahead.Ahead.{Ahead}
use Rattle.vers_sorted.specs.inside.Ahead.{HasReadBehind, IsBehind}
use Rattle.vers_sorted.proofs.Aheads.{position_fits, small}
use Rattle.vers_sorted.proofs.Decoding.{first_part}
use Rattle.vers_sorted.proofs.Holds.{hold_high}
use Rattle.vers_sorted.proofs.Packed.{high_same}
use Rattle.vers_sorted.proofs.Scans.{count_stays, part_of}

module _ (l : List Bool) (p n w : ℕ) (within : p + n ≤ length l) (few : n ≤ 64) (is : w ≡ number (take n (drop p l))) (some : 0 < w) where
  top : (count_leading_zeros 64 w < 64) × (bit_at w (63 - count_leading_zeros 64 w) ≡ 1) × ((i : ℕ) → 63 - count_leading_zeros 64 w < i → bit_at w i ≡ 0)
  top = highest_bit w some (omega (arith, is, small l p n within few (omega (arith, is))))

  bit_is : (i x : ℕ) → bit_at w i ≡ x → bit_at (number (take n (drop p l))) i ≡ x
  bit_is i x e = ap (λ m. bit_at m i) (sym is) ∙ e

  -- the highest one of the number is within the part, and no position after it has a one
  pub highest : (63 - count_leading_zeros 64 w < n)
      × (get_or l (p + (63 - count_leading_zeros 64 w)) false ≡ true)
      × (count true l (p + n) ≡ count true l (p + (63 - count_leading_zeros 64 w)) + 1)
  highest =
      let h : ℕ = 63 - count_leading_zeros 64 w in
      let on : bit_at (number (take n (drop p l))) h ≡ 1 = bit_is h 1 top.1 in
      let low : h < n = grind (arith, get_or_past, length-take, bit_at-number) in
      let one : get_or l (p + h) false ≡ true = value_one (get_or l (p + h) false) (sym (part_bit l p n h low) ∙ on) in
      let rest : p + h + 1 + (n - (h + 1)) ≡ p + n = omega (arith, low) in
      let stays = count_stays true l (p + h + 1) (n - (h + 1)) (omega (arith, within, rest)) (λ i less.
      let position : p + h + 1 + i ≡ p + (h + 1 + i) = omega arith in
      ap (λ q. get_or l q false) position
      ∙ value_none (get_or l (p + (h + 1 + i)) false) (sym (part_bit l p n (h + 1 + i) (omega (arith, less))) ∙ bit_is (h + 1 + i) 0 (top.2 (h + 1 + i) (omega arith)))) in
      let past = count_more_yes true l (p + h) (omega (arith, low, within)) one in
      (low, one, ap (count true l) (sym rest) ∙ stays ∙ past)

-- ---- a step back

module _ (s : List ℕ) (i : ℕ) (a : Ahead) (up : IsNonDecreasing s) (read : HasReadBehind s (i + 1) a) (some : 0 < a.word) where
  found : (63 - count_leading_zeros 64 a.word < a.len)
      × (get_or (high_parts s) (a.position + (63 - count_leading_zeros 64 a.word)) false ≡ true)
      × (count true (high_parts s) (a.position + a.len) ≡ count true (high_parts s) (a.position + (63 - count_leading_zeros 64 a.word)) + 1)
  found = highest (high_parts s) a.position a.len a.word read.within read.few read.bits some

  pub back_fits : a.position + (63 - count_leading_zeros 64 a.word) < length (high_parts s)
  back_fits = omega (arith, found.0, read.within)

  pub back_position : i < length s → a.position + (63 - count_leading_zeros 64 a.word) ≡ high_position s i
  back_position h =
      let p : ℕ = a.position + (63 - count_leading_zeros 64 a.word) in
      let at : select true (high_parts s) i ≡ p = select_at true (high_parts s) i p back_fits found.1 (omega (arith, found.2, read.before)) in
      sym at ∙ (hold_high s up).position i h

  pub back_read : (b : Ahead) → b.position ≡ a.position → b.len ≡ 63 - count_leading_zeros 64 a.word
      → b.word ≡ a.word % (1 * 2 ^ (63 - count_leading_zeros 64 a.word) % 18446744073709551616) → HasReadBehind s i b
  back_read b position len word =
      let h : ℕ = 63 - count_leading_zeros 64 a.word in
      let end : b.position + b.len ≡ a.position + h = omega (arith, position, len) in
      let part = first_part (high_parts s) a.position a.len h a.word (omega arith) (omega (arith, found.0)) read.bits in
      record {
        before = ap (count true (high_parts s)) end ∙ omega (arith, found.2, read.before);
        within = omega (arith, end, back_fits);
        few = omega (arith, len);
        bits = word ∙ part ∙ ap (λ n. number (take n (drop a.position (high_parts s)))) (sym len) ∙ ap (λ q. number (take b.len (drop q (high_parts s)))) (sym position);
      }

-- ---- the bits before an element's one

pub read_before : {s : List ℕ} {high low : List Bool} {first last width : ℕ} (i p q n w : ℕ) → IsPacked s high low first last width → i < length s → p ≡ select true high i
    → q + n ≡ p → part_number_or_zero high q n ≡ Some w → HasReadBehind s i (record { position = q; len = n; word = w })
read_before {s} {high} i p q n w packed h e at read =
    let part = part_of high q n w read in
    let some : i < count true high (length high) = omega (arith, packed.high_parts.ones) in
    let same = high_same packed in
    record {
      before = ap (λ l. count true l (q + n)) (sym same) ∙ ap (count true high) (at ∙ e) ∙ (count_at_select true high i some).1;
      within = omega (arith, part.1, ap length same);
      few = part.0;
      bits = part.2 ∙ ap (λ l. number (take n (drop q l))) same;
    }

pub read_behind : {s : List ℕ} {high low : List Bool} {first last width : ℕ} (i p q n w : ℕ) (o : Option ℕ) → IsPacked s high low first last width → i < length s → p ≡ select true high i
    → q + n ≡ p → o ≡ part_number_or_zero high q n → w ≡ unwrap_or o 0 → IsBehind s i (record { position = q; len = n; word = w })
read_behind i p q n w None packed h e at read is some = absurd (omega (arith, is, some))
read_behind i p q n w (Some v) packed h e at read is some = rw is (read_before i p q n v packed h e at (sym read))

pub ruleset steps = (high_same, back_fits, back_position, position_fits)
