-- Parts that are read element by element.
use Rattle.vers_sorted.proofs.Names.{◌≡◌, ℕ, zero, suc, ◌+◌, ◌-◌, ◌*◌, ◌/◌, ◌%◌, ◌^◌, ◌<◌, ◌≤◌, Bool, true, false, List, length, take, drop, get_or, refl, sym, ap, ◌∙◌, inl, inr, arith, w64, bit_and, bit_or, bit_at, bit_value, trailing_zeros, bit_at-trailing_zeros, cases_lt, cases_Bool, mod_below, mod_low, pow_pos, pow-add, and_mask, mod-eq_of_lt, mod-pow-add, mul-mod_left, or_shifted, one_shl, shl-shr, shr-shr, drop-drop, drop-take, get_or_past, number, count, select, number-drop, limb_bit, value_none, value_one, count_none, count_past, count_more_no, count_more_yes, select_at, select_is_position, mul_comm, mul-le-mul_left}
use lib.Bits.{and_self}
use Rattle.std.proofs.Math.ListN.{drop_of_length-le}
use Rattle.std.proofs.lemmas.Bool.{false≢true}
use Rattle.std.proofs.lemmas.List.{take-take}
use Rattle.std.proofs.lemmas.Nat.{and_block, pow_below, shr_split}
use Rattle.std.specs.Int.Bits.{or_shifted_r}
use Rattle.std.proofs.lemmas.Nat.Bits.{bit_at-zero}
use Rattle.std.specs.Prelude.{count_ones}
use Rattle.vers_bits.specs.Bits.{limb}
use Rattle.vers_bits.proofs.PublicLaws.{number-take, count_limb_whole}
use Rattle.vers_sorted.proofs.Gathers.{rest_of_rest, shifted}

-- ---- limbs

pub limb_past : (l : List Bool) (k : ℕ) → length l ≤ 64 * k → limb l k ≡ 0
unfolding limb
limb_past l k past = ap (λ xs. number (take 64 xs)) (drop_of_length-le l past)

pub ruleset words = (limb_past)

-- ---- bits that were read ahead

pub some_parts : (w : ℕ) → w < 64 → 0 < 1 * 2 ^ w % 18446744073709551616
some_parts w narrow = rw (one_shl w 64 narrow) (pow_pos w)

pub low_part_below : (n w : ℕ) → w < 64 → n % (1 * 2 ^ w % 18446744073709551616) < 2 ^ w
low_part_below n w narrow = rw (one_shl w 64 narrow) (mod_below n (2 ^ w) (pow_pos w))

-- the first w of them, and those past these
pub first_part : (l : List Bool) (p k w word : ℕ) → w < 64 → w ≤ k → word ≡ number (take k (drop p l)) → word % (1 * 2 ^ w % 18446744073709551616) ≡ number (take w (drop p l))
first_part l p k w word narrow few is =
    rw (one_shl w 64 narrow, is) (sym (number-take w (take k (drop p l))) ∙ ap number (take-take w k (drop p l) few))

pub rest_part : (l : List Bool) (p k w word : ℕ) → w ≤ k → word ≡ number (take k (drop p l)) → word / 2 ^ w ≡ number (take (k - w) (drop (p + w) l))
rest_part l p k w word few is =
    let split : w + (k - w) ≡ k = omega arith in
    ap (λ n. n / 2 ^ w) (is ∙ ap (λ m. number (take m (drop p l))) (sym split)) ∙ sym (number-drop w (take (w + (k - w)) (drop p l)))
    ∙ ap number (drop-take w (k - w) (drop p l) ∙ ap (take (k - w)) (drop-drop w p l))

-- a word below some of the digits of a number, and those digits from there on
split_word : (x n : ℕ) → n ≤ 64 → bit_or (x % 2 ^ n) (x / 2 ^ n % 2 ^ 64 * 2 ^ n % 18446744073709551616) ≡ x % 2 ^ 64
split_word x n few =
    let up : 64 - n + n ≡ 64 = omega arith in
    let moved : x / 2 ^ n % 2 ^ 64 * 2 ^ n % 18446744073709551616 ≡ x / 2 ^ n % 2 ^ (64 - n) * 2 ^ n = shifted (x / 2 ^ n % 2 ^ 64) n few ∙ ap (λ m. m * 2 ^ n) (rest_of_rest (x / 2 ^ n) 64 (64 - n) (omega arith)) in
    let all : x % 2 ^ 64 ≡ x / 2 ^ n % 2 ^ (64 - n) * 2 ^ n + x % 2 ^ n = ap (λ m. x % 2 ^ m) (sym up) ∙ mod-pow-add x (64 - n) n in
    rw moved (or_shifted_r (x / 2 ^ n % 2 ^ (64 - n)) n (x % 2 ^ n) (mod_below x (2 ^ n) (pow_pos n)) ∙ sym all)

-- the bits up to a limb, and the limb, are 64 bits or more
pub joined_bits : (l : List Bool) (p n k word next : ℕ) → n ≤ 64 → p + n ≡ 64 * k → word ≡ number (take n (drop p l)) → next ≡ limb l k → bit_or word (next * 2 ^ n % 18446744073709551616) ≡ number (take 64 (drop p l))
unfolding limb
joined_bits l p n k word next few at is after =
    let there : next ≡ number (drop p l) / 2 ^ n % 2 ^ 64 = after ∙ number-take 64 (drop (64 * k) l) ∙ ap (λ m. m % 2 ^ 64) (ap (λ q. number (drop q l)) (sym at) ∙ ap number (sym (drop-drop n p l)) ∙ number-drop n (drop p l)) in
    rw (is, number-take n (drop p l), there) (split_word (number (drop p l)) n few ∙ sym (number-take 64 (drop p l)))

pub ruleset parts = (low_part_below, some_parts)

-- ---- the ones of a number, from the lowest on

zeros_below : (n t : ℕ) → ((i : ℕ) → i < t → bit_at n i ≡ 0) → n % 2 ^ t ≡ 0
zeros_below n zero off = omega arith
zeros_below n (suc t) off =
    let e : suc t ≡ 1 + t = omega arith in
    let here : n / 2 ^ t % 2 ^ 1 ≡ 0 = off t (omega arith) in
    let below = zeros_below n t (λ i h. off i (omega arith)) in
    rw (e, mod-pow-add n 1 t, here, below) (omega arith)

-- without its lowest one, a number is its digits past that
pub clear_lowest : (n : ℕ) → 0 < n → n < 18446744073709551616 → bit_and n (n - 1) ≡ n / 2 ^ (trailing_zeros w64 n + 1) * 2 ^ (trailing_zeros w64 n + 1)
clear_lowest n some fits =
    let t : ℕ = trailing_zeros w64 n in
    let q : ℕ = n / 2 ^ (t + 1) in
    let found = bit_at-trailing_zeros w64 n some fits in
    let below : n % 2 ^ t ≡ 0 = zeros_below n t found.2 in
    let turn : t + 1 ≡ 1 + t = omega arith in
    let here : n / 2 ^ t % 2 ^ 1 ≡ 1 = found.1 in
    let rest : n % 2 ^ (t + 1) ≡ 2 ^ t = ap (λ m. n % 2 ^ m) turn ∙ rw (mod-pow-add n 1 t, here, below) (omega arith) in
    let split : q * 2 ^ (t + 1) + n % 2 ^ (t + 1) ≡ n = shr_split n (t + 1) in
    let whole : n ≡ q * 2 ^ (t + 1) + 2 ^ t = omega (arith, split, rest) in
    let less : n - 1 ≡ q * 2 ^ (t + 1) + (2 ^ t - 1) = omega (arith, whole, pow_pos t) in
    let up : 2 ^ t < 2 ^ (t + 1) = pow_below t (t + 1) (omega arith) in
    let same : 2 ^ t ≡ 1 * 2 ^ t + 0 = omega arith in
    let none : bit_and (2 ^ t) (2 ^ t - 1) ≡ 0 = and_mask (2 ^ t) t ∙ ap (λ m. m % 2 ^ t) same ∙ mod_low 1 t 0 (pow_pos t) in
    let both : bit_and (q * 2 ^ (t + 1) + 2 ^ t) (q * 2 ^ (t + 1) + (2 ^ t - 1)) ≡ q * 2 ^ (t + 1) = and_block (t + 1) q q (2 ^ t) (2 ^ t - 1) up (omega (arith, up)) ∙ omega (arith, ap (λ m. m * 2 ^ (t + 1)) (and_self q), none) in
    ap (λ m. bit_and m (n - 1)) whole ∙ ap (bit_and (q * 2 ^ (t + 1) + 2 ^ t)) less ∙ both

-- digits from position d on, at these and below
module _ (v d word : ℕ) (is : word ≡ v / 2 ^ d * 2 ^ d) where
  past_digits : (j : ℕ) → d ≤ j → word / 2 ^ j ≡ v / 2 ^ j
  past_digits j h =
      let e : d + (j - d) ≡ j = omega arith in
      ap (λ m. word / 2 ^ m) (sym e) ∙ sym (shr-shr word d (j - d)) ∙ ap (λ m. m / 2 ^ (j - d)) (ap (λ m. m / 2 ^ d) is ∙ shl-shr (v / 2 ^ d) d) ∙ shr-shr v d (j - d) ∙ ap (λ m. v / 2 ^ m) e

  digit_past : (j : ℕ) → d ≤ j → bit_at word j ≡ bit_at v j
  digit_past j h = ap (λ m. m % 2) (past_digits j h)

  digit_below : (j : ℕ) → j < d → bit_at word j ≡ 0
  digit_below j h =
      let e : 1 + (d - 1 - j) + j ≡ d = omega arith in
      let q : ℕ = v / 2 ^ d in
      let split : q * 2 ^ d ≡ q * 2 ^ (d - 1 - j) * 2 * 2 ^ j = ap (λ m. q * 2 ^ m) (sym e) ∙ rw (pow-add 2 (1 + (d - 1 - j)) j, pow-add 2 1 (d - 1 - j)) (omega arith) in
      ap (λ m. m / 2 ^ j % 2) (is ∙ split) ∙ ap (λ m. m % 2) (shl-shr (q * 2 ^ (d - 1 - j) * 2) j) ∙ mul-mod_left (q * 2 ^ (d - 1 - j)) 2

-- ---- the ones of a limb

-- where no position of a stretch has a one, the count stays, past the end too
none_counted : (l : List Bool) (p d : ℕ) → ((i : ℕ) → i < d → get_or l (p + i) false ≡ false) → count true l (p + d) ≡ count true l p
none_counted l p zero off = ap (count true l) (omega arith)
none_counted l p (suc d) off =
    let e : p + suc d ≡ p + d + 1 = omega arith in
    let before = none_counted l p d (λ i h. off i (omega arith)) in
    elim (cases_lt (p + d) (length l)) [
      | inl less ↦ ap (count true l) e ∙ count_more_no true l (p + d) less (off d (omega arith)) ∙ before
      | inr past ↦ ap (count true l) e ∙ count_past true l (p + d + 1) (omega arith) ∙ sym (count_past true l (p + d) past) ∙ before
    ]

module _ (l : List Bool) (k d word : ℕ) (within : d ≤ 64) (is : word ≡ limb l k / 2 ^ d * 2 ^ d) where
  off_from : (t : ℕ) → t ≤ 64 → ((i : ℕ) → i < t → bit_at word i ≡ 0) → (i : ℕ) → i < t - d → get_or l (64 * k + d + i) false ≡ false
  off_from t few off i h =
      let e : 64 * k + d + i ≡ 64 * k + (d + i) = omega arith in
      ap (λ p. get_or l p false) e ∙ value_none (get_or l (64 * k + (d + i)) false) (sym (limb_bit l k (d + i) (omega arith)) ∙ sym (digit_past (limb l k) d word is (d + i) (omega arith)) ∙ off (d + i) (omega arith))

  -- no one is left
  pub none_left : word ≡ 0 → count true l (64 * (k + 1)) ≡ count true l (64 * k + d)
  none_left none =
      let e : 64 * k + d + (64 - d) ≡ 64 * (k + 1) = omega arith in
      ap (count true l) (sym e) ∙ none_counted l (64 * k + d) (64 - d) (off_from 64 (omega arith) (λ i h. ap (λ n. bit_at n i) none ∙ bit_at-zero i))

  module _ (some : 0 < word) (fits : word < 18446744073709551616) where
    low : ℕ
    low = trailing_zeros w64 word

    found : (low < 64) × (bit_at word low ≡ 1) × ((i : ℕ) → i < low → bit_at word i ≡ 0)
    unfolding low
    found = bit_at-trailing_zeros w64 word some fits

    from : d ≤ low
    from = elim (cases_lt low d) [
      | inl less ↦ absurd (omega (arith, digit_below (limb l k) d word is low less, found.1))
      | inr more ↦ more
    ]

    one : get_or l (64 * k + low) false ≡ true
    one = value_one (get_or l (64 * k + low) false) (sym (limb_bit l k low found.0) ∙ sym (digit_past (limb l k) d word is low from) ∙ found.1)

    inside : 64 * k + low < length l
    inside = elim (cases_lt (64 * k + low) (length l)) [
      | inl less ↦ less
      | inr past ↦ absurd (false≢true (sym (get_or_past l (64 * k + low) false past) ∙ one))
    ]

    counted : count true l (64 * k + low) ≡ count true l (64 * k + d)
    counted =
        let e : 64 * k + d + (low - d) ≡ 64 * k + low = omega (arith, from) in
        ap (count true l) (sym e) ∙ none_counted l (64 * k + d) (low - d) (off_from low (omega (arith, found.0)) found.2)

    -- the lowest one left, and the rest
    pub lowest_one : (trailing_zeros w64 word < 64) × (64 * k + trailing_zeros w64 word < length l) × (select true l (count true l (64 * k + d)) ≡ 64 * k + trailing_zeros w64 word)
        × (count true l (64 * k + (trailing_zeros w64 word + 1)) ≡ count true l (64 * k + d) + 1)
    unfolding low
    lowest_one =
        let e : 64 * k + (low + 1) ≡ 64 * k + low + 1 = omega arith in (
          found.0,
          inside,
          select_at true l (count true l (64 * k + d)) (64 * k + low) inside one counted,
          ap (count true l) e ∙ count_more_yes true l (64 * k + low) inside one ∙ ap (λ n. n + 1) counted,
        )

    pub rest_left : bit_and word (word - 1) ≡ limb l k / 2 ^ (trailing_zeros w64 word + 1) * 2 ^ (trailing_zeros w64 word + 1)
    unfolding low
    rest_left = clear_lowest word some fits ∙ ap (λ n. n * 2 ^ (low + 1)) (past_digits (limb l k) d word is (low + 1) (omega (arith, from)))

-- ---- the first one

pub first_at : (l : List Bool) → 0 < count true l (length l) → limb l 0 % 4 ≡ 2 → select true l 0 ≡ 1
first_at l some two =
    let zero_off : get_or l 0 false ≡ false = value_none (get_or l 0 false) (sym (limb_bit l 0 0 (omega arith)) ∙ omega arith) in
    let one_on : get_or l 1 false ≡ true = value_one (get_or l 1 false) (sym (limb_bit l 0 1 (omega arith)) ∙ omega arith) in
    let more : 1 < length l = elim (cases_lt 1 (length l)) [
      | inl less ↦ less
      | inr past ↦ absurd (false≢true (sym (get_or_past l 1 false past) ∙ one_on))
    ] in
    select_at true l 0 1 more one_on (count_more_no true l 0 (omega arith) zero_off ∙ count_none true l)

pub at_first : (l : List Bool) → 0 < count true l (length l) → select true l 0 ≡ 1 → limb l 0 % 4 ≡ 2
at_first l some first =
    let at = rw first at (select_is_position true l 0 some) in
    let one_on : bit_at (limb l 0) 1 ≡ 1 = limb_bit l 0 1 (omega arith) ∙ ap bit_value at.holds in
    let zero_off : get_or l 0 false ≡ false = elim (cases_Bool (get_or l 0 false)) [
      | inl on ↦ absurd (omega (arith, count_more_yes true l 0 (omega (arith, at.within)) on, at.before))
      | inr off ↦ off
    ] in
    let zero_bit : bit_at (limb l 0) 0 ≡ 0 = limb_bit l 0 0 (omega arith) ∙ ap bit_value zero_off in
    omega arith

-- ---- all ones

pub ones_next : (l : List Bool) (k o w : ℕ) → o ≡ count true l (64 * k) → w ≡ limb l k → o + count_ones w ≡ count true l (64 * (k + 1))
ones_next l k o w so_far is =
    let at : 64 * k + 64 ≡ 64 * (k + 1) = omega arith in
    rw (so_far, is) (sym (count_limb_whole l k) ∙ ap (count true l) at)

pub ones_all : (l : List Bool) (k : ℕ) → length l ≤ 64 * k → count true l (64 * k) ≡ count true l (length l)
ones_all l k past = count_past true l (64 * k) past

pub ruleset counts = (count_none, ones_all)

-- ---- a high and a low part

pub parts_joined : (high span part w : ℕ) → high ≤ span / 2 ^ w → span < 18446744073709551616 → part < 2 ^ w → bit_or (high * 2 ^ w % 18446744073709551616) part ≡ 2 ^ w * high + part
parts_joined high span part w few fits small =
    let below : high * 2 ^ w ≤ span = omega (arith, mul-le-mul_left {m = high} {n = span / 2 ^ w} (2 ^ w) few, mul_comm (2 ^ w) high, mul_comm (2 ^ w) (span / 2 ^ w), mod_below span (2 ^ w) (pow_pos w)) in
    rw (mod-eq_of_lt {n = high * 2 ^ w} {m = 18446744073709551616} (omega arith)) (or_shifted high w part small ∙ omega (arith, mul_comm (2 ^ w) high))

pub ruleset joins = (parts_joined)
