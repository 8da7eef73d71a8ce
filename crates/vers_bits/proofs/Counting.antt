-- Counts and numbers of parts of a list, by its limbs.
use Rattle.vers_bits.proofs.Names.{max, false, get_or, bit_at, bit_at_or, bit_at-zero, bit_at_above, bit_at_cat_low, bit_at_cat_high, bit_value, same_from_bits_below, shr-shr, ◌≡◌, ℕ, ◌+◌, ◌-◌, ◌*◌, ◌/◌, ◌%◌, ◌^◌, ◌<◌, ◌≤◌, Bool, List, [], ◌∷◌, ◌++◌, length, take, drop, sym, ap, ◌∙◌, inl, inr, arith, Some, None, bit_and, bit_or, cases_lt, mod_below, mul-mod_first, or_comm, or_shifted, pow_pos, pow-add, shl_whole, mul_assoc, mul_comm, pow-suc, take-add, length-take, length-drop, drop-drop, number, nat_tests, limb, part_number}
use Rattle.vers_bits.proofs.Words.{length-word_bits, limb-lt}
use Rattle.vers_bits.proofs.LowBits.{low_mask, bit_at_mod}
use Rattle.vers_bits.proofs.Num.{number-take, part_bit, limb_bit}
use Rattle.vers_bits.proofs.Count.{count_limb_whole, count_near, count_past, count_none, count_le, count_both}

pub ruleset limbs = (count_limb_whole, count_near, count_past, count_none, count_le, count_both)

number_part_lt : (l : List Bool) (p n : ℕ) → number (take n (drop p l)) < 2 ^ n
number_part_lt l p n = rw number-take (mod_below (number (drop p l)) (2 ^ n) (pow_pos n))

-- the number of a part, by its digits
part_by_digits : (l : List Bool) (p n w : ℕ) → n ≤ 64 → ((i : ℕ) → i < n → bit_at w i ≡ bit_value (get_or l (p + i) false)) → number (take n (drop p l)) ≡ bit_and w (18446744073709551615 / 2 ^ (64 - n))
part_by_digits l p n w few digits =
    rw (low_mask w n few) (same_from_bits_below n _ _ (number_part_lt l p n) (mod_below w (2 ^ n) (pow_pos n)) (λ i h. rw (part_bit l p n i h, bit_at_mod w n i h) (sym (digits i h))))

-- the bits of a part that is in one limb
pub part_of_limb : (l : List Bool) (p n : ℕ) → 0 < n → p % 64 + n ≤ 64
    → number (take n (drop p l)) ≡ bit_and (limb l (p / 64) / 2 ^ (p % 64)) (18446744073709551615 / 2 ^ (64 - n))
part_of_limb l p n some h = part_by_digits l p n _ (omega arith) (λ i small. rw shr-shr (grind (arith, limb_bit l (p / 64) (p % 64 + i))))

pub number-append : (a b : List Bool) → number (a ++ b) ≡ number a + 2 ^ length a * number b
number-append [] b = omega arith
number-append (x ∷ a) b = omega (arith, number-append a b, ap (λ m. m * number b) (pow-suc 2 (length a)))

-- two parts, one after the other
parts_add : (l : List Bool) (p m n : ℕ) → m ≤ n → p + n ≤ length l
    → number (take n (drop p l)) ≡ number (take m (drop p l)) + 2 ^ m * number (take (n - m) (drop (p + m) l))
parts_add l p m n h within =
    let whole : n ≡ m + (n - m) = omega arith in
    let long : length (take m (drop p l)) ≡ m = grind (arith, length-take, length-drop) in
    grind (arith, take-add, number-append, drop-drop)

pub parts_join : (l : List Bool) (p m n : ℕ) → m ≤ n → n ≤ 64 → p + n ≤ length l
    → number (take n (drop p l)) ≡ bit_or (number (take m (drop p l))) (number (take (n - m) (drop (p + m) l)) * 2 ^ m % 18446744073709551616)
parts_join l p m n h few within =
    let high : ℕ = number (take (n - m) (drop (p + m) l)) in
    let fits : high * 2 ^ m % 2 ^ 64 ≡ high * 2 ^ m = shl_whole high (n - m) m 64 (number_part_lt l (p + m) (n - m)) (omega arith) in
    grind (arith, parts_add, or_comm, or_shifted, number_part_lt, mul_comm)

-- digit i of two limbs, the second shifted up to where the first ends
digit_of_two : (x y s i : ℕ) → s < 64 → i < 64 → x < 2 ^ 64
    → bit_at (bit_or (x / 2 ^ s) (y * 2 ^ 1 % 18446744073709551616 * 2 ^ (63 - s) % 18446744073709551616)) i ≡ max (bit_at x (s + i)) (bit_at (y * 2 ^ (64 - s) + 0) i)
digit_of_two x y s i small h fits =
    let rest : 1 + (63 - s) ≡ 64 - s = omega arith in
    let twice : 2 ^ 1 * 2 ^ (63 - s) ≡ 2 ^ (64 - s) = rw rest at (sym (pow-add 2 1 (63 - s))) in
    let none : y * 2 ^ (64 - s) ≡ y * 2 ^ (64 - s) + 0 = omega arith in
    rw (bit_at_or, shr-shr, mul-mod_first (y * 2 ^ 1) (2 ^ (63 - s)) (2 ^ 64), mul_assoc y (2 ^ 1) (2 ^ (63 - s)), twice, bit_at_mod (y * 2 ^ (64 - s)) 64 i h) (ap (λ m. max (bit_at x (s + i)) (bit_at m i)) none)

-- the bits of a part, by the limb of the first and that of the last
pub part_of_limbs : (l : List Bool) (p n : ℕ) → 0 < n → n ≤ 64 → p + n ≤ length l
    → number (take n (drop p l))
    ≡ bit_and (bit_or (limb l (p / 64) / 2 ^ (p % 64)) (limb l ((p + n - 1) / 64) * 2 ^ 1 % 18446744073709551616 * 2 ^ (63 - p % 64) % 18446744073709551616)) (18446744073709551615 / 2 ^ (64 - n))
part_of_limbs l p n some few within =
    part_by_digits l p n _ few (λ i h.
    let k = p / 64 in
    let s = p % 64 in
    let last = (p + n - 1) / 64 in
    digit_of_two (limb l k) (limb l last) s i (omega arith) (omega arith) (limb-lt l k) ∙ elim (cases_lt (s + i) 64) [
      | inl one ↦ grind (arith, one, bit_at_cat_low (limb l last) (64 - s) 0 i (omega arith), bit_at-zero i, limb_bit l k (s + i))
      | inr two ↦
          let next : 64 * last + (i - (64 - s)) ≡ p + i = omega arith in
          grind (arith, next, bit_at_above (limb l k) 64 (s + i) (limb-lt l k) two, bit_at_cat_high (limb l last) (64 - s) 0 i (pow_pos (64 - s)) (omega arith), limb_bit l last (i - (64 - s)))
    ])

pub part_number_some : (l : List Bool) (p n : ℕ) → 0 < n → n ≤ 64 → p + n ≤ length l → part_number l p n ≡ Some (number (take n (drop p l)))
unfolding part_number
part_number_some l p n some few within = grind (arith, nat_tests)

pub part_number_none : (l : List Bool) (p n : ℕ) → (0 < n → n ≤ 64 → length l < p + n) → part_number l p n ≡ None
unfolding part_number
part_number_none l p n out = grind (arith, nat_tests)

pub ruleset in_limbs = (part_of_limbs, length-word_bits)

pub ruleset parts = (part_number_none, part_number_some, parts_join)

-- an element past what a machine number can say is past the list
pub no_element : (l : List Bool) (e n : ℕ) → length l ≤ e * n → part_number l (e * n) n ≡ None
no_element l e n h = part_number_none l (e * n) n (λ some few. omega arith)

pub ruleset elements = (no_element, length-word_bits)
