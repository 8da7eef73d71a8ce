-- The position after a position that has the bit, in the same limb.
use Rattle.vers_rank.proofs.Names.{◌≡◌, ◌≢◌, ℕ, zero, suc, ◌+◌, ◌-◌, ◌*◌, ◌/◌, ◌%◌, ◌^◌, ◌<◌, ◌≤◌, Bool, true, false, List, length, get_or, refl, sym, ◌∙◌, arith, min, w64, bit_at, trailing_zeros, cases_lt, bit_at-suc, bit_at-zero, bit_at_above, bit_at-trailing_zeros, bit_value, is_bit, count, limb, select, count_more_no, select_at, count_at_select, select_past, select_up, select_holds, value_one, value_none, shr-shr, shr_split, bit_at_cat_low, marked}
use Rattle.vers_rank.proofs.Marks.{marked_fits, marked_bit}

-- a digit of a number without its lowest q digits
pub digit_after : (n q i : ℕ) → bit_at (n / 2 ^ q) i ≡ bit_at n (q + i)
digit_after n q i = rw shr-shr refl

-- and without those from number k on
pub low_digit : (k n i : ℕ) → i < k → bit_at (n % 2 ^ k) i ≡ bit_at n i
low_digit k n i h = sym (rw (shr_split n k) at (bit_at_cat_low (n / 2 ^ k) k (n % 2 ^ k) i h))

-- the same of the digits past number q
digit_past : (n q i : ℕ) → bit_at (n / 2 ^ q / 2) i ≡ bit_at n (q + 1 + i)
digit_past n q i = let e : q + suc i ≡ q + 1 + i = omega arith in rw (← bit_at-suc (n / 2 ^ q) i, digit_after n q (suc i), e) refl

module _ (b : Bool) (l : List Bool) (k q : ℕ) (after : 0 < marked b (limb l k) / 2 ^ q / 2) where
  abbrev rest : ℕ
  rest = marked b (limb l k) / 2 ^ q / 2

  abbrev far : ℕ
  far = trailing_zeros w64 rest

  abbrev next : ℕ
  next = 64 * k + q + 1 + far

  far_is : (far < 64) × (bit_at rest far ≡ 1) × ((i : ℕ) → i < far → bit_at rest i ≡ 0)
  far_is = bit_at-trailing_zeros w64 rest after (omega (arith, marked_fits b l k))

  in_word : q + 1 + far < 64
  in_word = grind (arith, far_is.1, digit_past (marked b (limb l k)) q far, bit_at_above (marked b (limb l k)) 64 (q + 1 + far) (marked_fits b l k))

  bit_after : (i : ℕ) → i < 64 - (q + 1) → bit_at rest i ≡ bit_value (is_bit b (get_or l (64 * k + q + 1 + i) false))
  bit_after i h = grind (arith, digit_past, marked_bit)

  on : is_bit b (get_or l next false) ≡ true
  on = value_one (is_bit b (get_or l next false)) (sym (bit_after far (omega (arith, in_word))) ∙ far_is.1)

  stays : (r d : ℕ) → r < count b l (length l) → 64 * k + q ≡ select b l r → d ≤ far → 64 * k + q + 1 + d ≤ length l → count b l (64 * k + q + 1 + d) ≡ r + 1
  stays r zero some position less inside = let e : 64 * k + q + 1 + 0 ≡ 64 * k + q + 1 = omega arith in rw (e, position) (count_at_select b l r some).2
  stays r (suc d) some position less inside =
      let e : 64 * k + q + 1 + suc d ≡ 64 * k + q + 1 + d + 1 = omega arith in
      let off = value_none (is_bit b (get_or l (64 * k + q + 1 + d) false)) (sym (bit_after d (omega (arith, in_word))) ∙ far_is.2 d (omega arith)) in
      rw (e, count_more_no b l (64 * k + q + 1 + d) (omega arith) off) (stays r d some position (omega arith) (omega arith))

  -- the position after that of number r, where the word of number r holds another past it
  pub position_after : (r : ℕ) → r < count b l (length l) → 64 * k + q ≡ select b l r → min next (length l) ≡ select b l (r + 1)
  position_after r some position =
      let d = length l - (64 * k + q + 1) in
      grind (arith, cases_lt next (length l), on, select_at b l (r + 1) next, select_past b l (r + 1), stays r far some position, stays r d some position, count_at_select b l r some)

-- if the word of number r has no other past it, the next is in another word
pub none_after : (b : Bool) (l : List Bool) (r k q : ℕ) → q < 64 → r + 1 < count b l (length l) → 64 * k + q ≡ select b l r → marked b (limb l k) / 2 ^ q / 2 ≡ 0
    → (64 * k + q) / 64 ≢ select b l (r + 1) / 64
none_after b l r k q small more position none same =
    let p = select b l (r + 1) in
    let holds : is_bit b (get_or l p false) ≡ true = (select_holds b l (r + 1) (length l) (omega arith) more).1 in
    let past : 64 * k + q < p = omega (arith, position, select_up b l r (r + 1) (omega arith) more) in
    let i = p - (64 * k + q + 1) in
    let there : 64 * k + (q + 1 + i) ≡ p = omega (arith, past) in
    absurd (grind (arith, there, holds, same, small, none, marked_bit b l k (q + 1 + i), digit_past (marked b (limb l k)) q i, bit_at-zero i))
