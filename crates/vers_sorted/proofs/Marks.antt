-- The ones or the zeros of a limb, from the lowest up.
use Rattle.vers_sorted.proofs.Names.{◌≡◌, ℕ, ◌+◌, ◌-◌, ◌*◌, ◌/◌, ◌%◌, ◌^◌, ◌<◌, ◌≤◌, Bool, true, false, List, length, get_or, slice_get, not, refl, sym, ap, ◌∙◌, Some, arith, inl, inr, min, w64, bit_at, bit_not, trailing_zeros, trailing_of_zero, cases_lt, shr-shr, bit_at-trailing_zeros, bit_at_not, bit_value, is_bit, count, positions, limb, AreMarked, value_none, value_one, limb_bit, count_past, rules}
use Rattle.std.proofs.Math.Nat.{div-le_self}
use Rattle.vers_sorted.proofs.Scans.{count_stays}
use Rattle.vers_sorted.proofs.SparseBits.{no_position, position_at}

-- ---- a limb

other_value : (x : Bool) → 1 - bit_value x ≡ bit_value (not x)
other_value true = refl
other_value false = refl

pub ones_marked : (l : List Bool) (k : ℕ) → AreMarked true l (64 * k) 64 (limb l k)
ones_marked l k i h = limb_bit l k i h

pub zeros_marked : (l : List Bool) (k : ℕ) → limb l k < 18446744073709551616 → AreMarked false l (64 * k) 64 (bit_not w64 (limb l k))
zeros_marked l k small i h = search (rules, bit_at_not, limb_bit, other_value)

-- ---- the lowest digit that is left

pub digits_past : (w t i : ℕ) → bit_at (w / 2 ^ t) i ≡ bit_at w (t + i)
digits_past w t i = ap (λ m. m % 2) (shr-shr w t i)

-- the marks from position r of a limb on
marked_from : (b : Bool) (l : List Bool) (k r w : ℕ) → AreMarked b l (64 * k) 64 w → AreMarked b l (64 * k + r) (64 - r) (w / 2 ^ r)
marked_from b l k r w marked i h =
    let position : 64 * k + r + i ≡ 64 * k + (r + i) = omega arith in
    rw position (digits_past w r i ∙ marked (r + i) (omega arith))

module _ (b : Bool) (l : List Bool) (p n w : ℕ) (within : p + n ≤ length l) (few : n ≤ 64) (fits : w < 18446744073709551616) (marked : AreMarked b l p n w) where
  below_lowest : (i : ℕ) → i < trailing_zeros w64 w → bit_at w i ≡ 0
  below_lowest i h = grind (arith, bit_at-trailing_zeros w64 w)

  off : (i : ℕ) → i < n → i < trailing_zeros w64 w → is_bit b (get_or l (p + i) false) ≡ false
  off i h low = value_none (is_bit b (get_or l (p + i) false)) (sym (marked i h) ∙ below_lowest i low)

  on : trailing_zeros w64 w < n → is_bit b (get_or l (p + trailing_zeros w64 w) false) ≡ true
  on h = elim (cases_lt 0 w) [
    | inl some ↦ value_one (is_bit b (get_or l (p + trailing_zeros w64 w) false)) (sym (marked (trailing_zeros w64 w) h) ∙ (bit_at-trailing_zeros w64 w some fits).1)
    | inr none ↦ grind (arith, trailing_of_zero)
  ]

  -- its position is the next, where it is one of the n
  found_at : trailing_zeros w64 w < n → slice_get (positions b l) (count b l p) ≡ Some (p + trailing_zeros w64 w)
  found_at h =
      let stays = count_stays b l p (trailing_zeros w64 w) (omega (arith, within)) (λ i low. off i (omega arith) low) in
      position_at b l p (p + trailing_zeros w64 w) (omega (arith, within)) (on h) stays

  -- else there is none
  none_at : n ≤ trailing_zeros w64 w → count b l (p + n) ≡ count b l p
  none_at h = count_stays b l p n within (λ i low. off i low (omega arith))

-- ---- a position, by the marks of its limb

module _ (b : Bool) (l : List Bool) (p limb_word word n : ℕ) (inside : p < length l) (marked : AreMarked b l (64 * (p / 64)) 64 limb_word)
    (is : word ≡ limb_word / 2 ^ (p % 64)) (limb_fits : limb_word < 18446744073709551616) (so_many : n ≡ min (length l - p) (64 - p % 64)) where
  marked_here : AreMarked b l p n word
  marked_here i h =
      let position : 64 * (p / 64) + p % 64 ≡ p = omega arith in
      let here : AreMarked b l p (64 - p % 64) (limb_word / 2 ^ (p % 64)) = rw position at (marked_from b l (p / 64) (p % 64) limb_word marked) in
      ap (λ w. bit_at w i) is ∙ here i (omega (arith, so_many))

  fits : word < 18446744073709551616
  fits = omega (arith, is, div-le_self limb_word (2 ^ (p % 64)), limb_fits)

  pub position_found : (t : ℕ) → t ≡ trailing_zeros w64 word → t < n → slice_get (positions b l) (count b l p) ≡ Some (p + t)
  position_found t lowest h =
      found_at b l p n word (omega (arith, so_many)) (omega (arith, so_many)) fits marked_here (omega (arith, lowest, h))
      ∙ ap (λ i. Some (p + i)) (sym lowest)

  pub none_in_limb : (t : ℕ) → t ≡ trailing_zeros w64 word → n ≤ t → count b l (64 * (p / 64) + 64) ≡ count b l p
  none_in_limb t lowest past =
      let h : n ≤ trailing_zeros w64 word = omega (arith, lowest, past) in
      let none = none_at b l p n word (omega (arith, so_many)) (omega (arith, so_many)) fits marked_here h in
      elim (cases_lt (64 * (p / 64) + 64) (length l)) [
        | inl before ↦
            let end : p + n ≡ 64 * (p / 64) + 64 = omega (arith, so_many) in
            ap (count b l) (sym end) ∙ none
        | inr after ↦
            let end : p + n ≡ length l = omega (arith, so_many) in
            count_past b l (64 * (p / 64) + 64) after ∙ ap (count b l) (sym end) ∙ none
      ]

pub ruleset limbs = (ones_marked, zeros_marked)

pub ruleset walking = (no_position)
