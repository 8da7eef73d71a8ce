-- Words whose ones are positions of a limb.
use Rattle.vers_rank.proofs.Names.{zero, suc, ◌≡◌, ℕ, ◌+◌, ◌-◌, ◌*◌, ◌/◌, ◌%◌, ◌^◌, ◌<◌, ◌≤◌, min, max, Bool, true, false, List, length, get_or, take, drop, pow_mono, sym, ap, ◌∙◌, arith, inl, inr, w64, count_ones, bit_and, bit_at, bit_not, trailing_zeros, cases_lt, cases_eq, cases_Bool, length-take, and_le_l, bit_at-zero, bit_at-lt, bit_at_and, bit_at_not, bit_at-trailing_zeros, ones_shl, one_shl, pow_below, bit_at-pow_other, bit_at-pow_same, ◌⊎◌, ◌≢◌, ones_shr, bit_at_ones, bit_at_ones_above, bit_at_mask_inside, bit_at_mask_below, bit_value, is_bit, count, count_up, count_past, count_more_yes, count_more_no, highest_bit, limb_bit, number-lt, value_one, IsMarked, marked, count_leading_zeros, ones, limb}
use Rattle.vers_rank.specs.inside.Walks.{IsWithin}
use Rattle.vers_rank.proofs.Words.{ones_few, ones_split, one_more}

-- ---- the ones of a word
-- where a stretch of bits has no ones, the count stays
pub ones_stay : (w a d : ℕ) → ((i : ℕ) → a ≤ i → i < a + d → bit_at w i ≡ 0) → count_ones (w % 2 ^ (a + d)) ≡ count_ones (w % 2 ^ a)
ones_stay w a zero none = ap (λ n. count_ones (w % 2 ^ n)) (let e : a + 0 ≡ a = omega arith in e)
ones_stay w a (suc d) none =
    let size : a + suc d ≡ a + d + 1 = omega arith in
    ap (λ n. count_ones (w % 2 ^ n)) size ∙ omega (arith, one_more w (a + d), none (a + d) (omega arith) (omega arith), ones_stay w a d (λ i low high. none i low (omega arith)))

-- a bit between two counts of ones
pub one_between : (w q n : ℕ) → count_ones (w % 2 ^ q) ≤ n → n < count_ones (w % 2 ^ (q + 1)) → (bit_at w q ≡ 1) × (count_ones (w % 2 ^ q) ≡ n)
one_between w q n low high = (omega (arith, one_more w q, bit_at-lt w q), omega (arith, one_more w q, bit_at-lt w q))

pub some_word : (w i : ℕ) → bit_at w i ≡ 1 → 0 < w
some_word w i on = grind (arith, bit_at-zero i)

-- ---- parts of a word
-- the ones of v are those of w from position s on and below position t
pub record IsCut (w v s t : ℕ) : Type 0 where
  pub less : v ≤ w
  pub only : (i : ℕ) → i < 64 → bit_at v i ≡ 1 → (bit_at w i ≡ 1) × (s ≤ i) × (i < t)
  pub all : (i : ℕ) → i < 64 → s ≤ i → i < t → bit_at w i ≡ 1 → bit_at v i ≡ 1

-- the mask has the bits from s on and below t, and no other of those that w has
cut_by : (w mask s t : ℕ) → ((i : ℕ) → i < 64 → s ≤ i → i < t → bit_at mask i ≡ 1) → ((i : ℕ) → i < 64 → bit_at w i ≡ 1 → (i < s) ⊎ (t ≤ i) → bit_at mask i ≡ 0) → IsCut w (bit_and w mask) s t
cut_by w mask s t inside outside = record {
  less = and_le_l w mask;
  only = λ i h on.
      let was : bit_at w i ≡ 1 = omega (arith, on, bit_at_and w mask i, bit_at-lt w i) in
      (was, grind (arith, bit_at_and w mask i, outside i h was), grind (arith, bit_at_and w mask i, outside i h was));
  all = λ i h from to on. omega (arith, on, bit_at_and w mask i, inside i h from to);
}

pub cut_from : (w q : ℕ) → q < 64 → IsCut w (bit_and w (18446744073709551615 * 2 ^ q % 18446744073709551616)) q 64
cut_from w q small =
    rw (ones_shl 64 q (omega arith))
    (cut_by w (2 ^ 64 - 2 ^ q) q 64 (λ i h from _. bit_at_mask_inside q 64 i from h) (λ i h _ out. elim out [ inl below ↦ bit_at_mask_below q 64 i below | inr past ↦ absurd (omega arith) ]))

pub cut_to : (w q : ℕ) → q < 64 → IsCut w (bit_and w (18446744073709551615 / 2 ^ (63 - q))) 0 (q + 1)
cut_to w q small =
    let size : 64 - (63 - q) ≡ q + 1 = omega arith in
    rw (ones_shr 64 (63 - q) (omega arith), size)
    (cut_by w (2 ^ (q + 1) - 1) 0 (q + 1) (λ i h _ to. bit_at_ones (q + 1) i to) (λ i h _ out. elim out [ inl below ↦ absurd (omega arith) | inr past ↦ bit_at_ones_above (q + 1) i past ]))

-- a word without bit q, on one side of which it has no other
cut_clear : (w q s t : ℕ) → q < 64 → ((i : ℕ) → s ≤ i → i < t → i ≢ q) → ((i : ℕ) → i < 64 → bit_at w i ≡ 1 → (i < s) ⊎ (t ≤ i) → i ≡ q) → IsCut w (bit_and w (bit_not w64 (1 * 2 ^ q % 18446744073709551616))) s t
cut_clear w q s t small without others =
    let bit = λ (i : ℕ) (h : i < 64). bit_at_not w64 (2 ^ q) i (pow_below q 64 small) h in
    rw (one_shl q 64 small)
    (cut_by w (bit_not w64 (2 ^ q)) s t (λ i h from to. omega (arith, bit i h, bit_at-pow_other q i (without i from to))) (λ i h on out. rw (others i h on out) (omega (arith, bit q small, bit_at-pow_same q))))

pub cut_lowest : (w : ℕ) → 0 < w → w < 18446744073709551616 → IsCut w (bit_and w (bit_not w64 (1 * 2 ^ trailing_zeros w64 w % 18446744073709551616))) (trailing_zeros w64 w + 1) 64
cut_lowest w some fits =
    let at = bit_at-trailing_zeros w64 w some fits in
    cut_clear w (trailing_zeros w64 w) _ 64 at.0 (λ i from _ e. absurd (omega arith)) (λ i h on out. grind (arith, at.2 i))

pub cut_highest : (w : ℕ) → 0 < w → w < 18446744073709551616 → IsCut w (bit_and w (bit_not w64 (1 * 2 ^ (63 - count_leading_zeros 64 w) % 18446744073709551616))) 0 (63 - count_leading_zeros 64 w)
cut_highest w some fits =
    let at = highest_bit w some fits in
    cut_clear w (63 - count_leading_zeros 64 w) 0 _ (omega (arith, at.0)) (λ i _ to e. absurd (omega arith)) (λ i h on out. grind (arith, at.2 i))

-- ---- the positions of a limb
pub limb_fits : (l : List Bool) (k : ℕ) → limb l k < 18446744073709551616
unfolding limb
limb_fits l k =
    let part = take 64 (drop (64 * k) l) in
    let short : length part ≤ 64 = omega (arith, length-take 64 (drop (64 * k) l)) in
    let few : 2 ^ length part ≤ 2 ^ 64 = pow_mono short in
    omega (arith, number-lt part, few)

pub marked_fits : (b : Bool) (l : List Bool) (k : ℕ) → marked b (limb l k) < 18446744073709551616
marked_fits b l k = grind (arith, cases_Bool b, limb_fits l k)

pub marked_bit : (b : Bool) (l : List Bool) (k i : ℕ) → i < 64 → bit_at (marked b (limb l k)) i ≡ bit_value (is_bit b (get_or l (64 * k + i) false))
marked_bit b l k i h = grind (arith, cases_Bool b, cases_Bool (get_or l (64 * k + i) false), limb_bit l k i h, bit_at_not w64 (limb l k) i (limb_fits l k) h)

-- the word that a limb's marks are read from
pub marks_are : (b : Bool) (l m : List Bool) (k v w : ℕ) → w ≡ marked b v → v ≡ limb m k → m ≡ l → w ≡ marked b (limb l k)
marks_are b l m k v w word value view = rw (← view, ← value) word

-- a limb whole
pub whole_marked : (b : Bool) (l : List Bool) (k lo hi : ℕ) → lo ≤ count b l (64 * k) → count b l (64 * k + 64) ≤ hi → IsMarked b l k (marked b (limb l k)) lo hi
whole_marked b l k lo hi low high = record {
  fits = marked_fits b l k;
  sound = λ i h on inside.
      let holds = value_one (is_bit b (get_or l (64 * k + i) false)) (sym (marked_bit b l k i h) ∙ on) in
      grind (arith, count_up b l (64 * k) (64 * k + i), count_more_yes b l (64 * k + i) inside holds, count_up b l (64 * k + i + 1) (64 * k + 64));
  complete = λ i h at. marked_bit b l k i h ∙ ap bit_value at.holds;
}

module _ {b : Bool} {l : List Bool} {k w lo hi : ℕ} (is : IsMarked b l k w lo hi) where
  -- the positions from number `from` on and below number `to`
  pub marked_cut : (v s t from to : ℕ) → IsCut w v s t → max from (count b l (64 * k)) ≡ max lo (count b l (64 * k + s)) → min to (count b l (64 * k + 64)) ≡ min hi (count b l (64 * k + t)) → IsMarked b l k v from to
  marked_cut v s t from to cut low high = record {
    fits = omega (arith, cut.less, is.fits);
    sound = λ i h on inside.
        let was = cut.only i h on in
        let at = is.sound i h was.0 inside in
        grind (arith, low, high, at, was, count_up b l (64 * k + s) (64 * k + i), count_more_yes b l (64 * k + i) inside at.holds, count_up b l (64 * k + i + 1) (64 * k + t));
    complete = λ i h at.
        let next = count_more_yes b l (64 * k + i) at.inside at.holds in
        let after : s ≤ i = grind (arith, low, at.low, next, count_up b l (64 * k + i + 1) (64 * k + s), count_up b l (64 * k) (64 * k + i)) in
        let before : i < t = grind (arith, high, at.high, next, count_up b l (64 * k + t) (64 * k + i), count_up b l (64 * k + i + 1) (64 * k + 64)) in
        cut.all i h after before (is.complete i h (grind (arith, low, high, at, next, count_up b l (64 * k) (64 * k + i), count_up b l (64 * k + i + 1) (64 * k + 64))));
  }

-- ---- the ones of a word are as many as the positions
module _ {b : Bool} {l : List Bool} {k w lo hi : ℕ} (is : IsMarked b l k w lo hi) (order : lo ≤ hi) where
  abbrev within : ℕ → ℕ
  within n = min (max n lo) hi

  within_next : (i : ℕ) → i < 64 → (bit_at w i ≡ 1 → 64 * k + i < length l) → within (count b l (64 * k + i)) + bit_at w i ≡ within (count b l (64 * k + i + 1))
  within_next i h inside =
      let p = 64 * k + i in
      elim (cases_eq (bit_at w i) 1) [
        | inl on ↦ (let at = is.sound i h on (inside on) in omega (arith, on, at.low, at.high, count_more_yes b l p at.inside at.holds))
        | inr none ↦
            let no : bit_at w i ≡ 0 = omega (arith, bit_at-lt w i) in
            let out : p < length l → is_bit b (get_or l p false) ≡ true → lo ≤ count b l p → count b l p < hi → ⊥ =
            λ here holds low high. none (is.complete i h (record { inside = here; holds = holds; low = low; high = high })) in
            grind (arith, cases_lt p (length l), cases_Bool (is_bit b (get_or l p false)), cases_lt (count b l p) lo, cases_lt (count b l p) hi, count_more_yes b l p, count_more_no b l p, count_past b l p, count_past b l (p + 1))
      ]

  pub ones_within : (j : ℕ) → j ≤ 64 → ((i : ℕ) → i < j → bit_at w i ≡ 1 → 64 * k + i < length l) → min (max (count b l (64 * k)) lo) hi + count_ones (w % 2 ^ j) ≡ min (max (count b l (64 * k + j)) lo) hi
  ones_within zero h inside = let start : 64 * k + 0 ≡ 64 * k = omega arith in omega (arith, ones_few w 0, ap (count b l) start)
  ones_within (suc j) h inside =
      let size : suc j ≡ j + 1 = omega arith in
      let position : 64 * k + suc j ≡ 64 * k + j + 1 = omega arith in
      omega (arith, ap (λ n. count_ones (w % 2 ^ n)) size, one_more w j, ones_within j (omega arith) (λ i less. inside i (omega arith)), within_next j (omega arith) (inside j (omega arith)), ap (count b l) position)

  -- the word has all the ones up to the end of the list
  pub ones_past : (n : ℕ) → n ≤ 64 → 64 * k ≤ length l → length l ≤ 64 * k + n → hi ≤ count b l (length l) → hi ≤ min (max (count b l (64 * k)) lo) hi + count_ones (w % 2 ^ n)
  ones_past n few start past all =
      let j = length l - 64 * k in
      let end : 64 * k + j ≡ length l = omega arith in
      let rest : j + (n - j) ≡ n = omega arith in
      omega (arith, rw end at (ones_within j (omega arith) (λ i less _. omega arith)), rw rest at (ones_split w j (n - j)))

  -- the number of a one's position, by the ones below it
  pub position_of : (q r : ℕ) → q < 64 → hi ≤ count b l (length l) → 64 * k ≤ length l → bit_at w q ≡ 1 → min (max (count b l (64 * k)) lo) hi + count_ones (w % 2 ^ q) ≡ r → r < hi → (IsWithin b l lo hi (64 * k + q)) × (count b l (64 * k + q) ≡ r)
  position_of q r small all start on number some =
      let inside : 64 * k + q < length l = grind (arith, ones_past q (omega arith) start) in
      let at = is.sound q small on inside in
      (at, omega (arith, ones_within q (omega arith) (λ i less _. omega arith), at.low))
