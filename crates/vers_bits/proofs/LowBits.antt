-- The low digits of a number as a list of bits.
use Rattle.vers_bits.proofs.Names.{◌≡◌, ℕ, ◌+◌, ◌-◌, ◌/◌, ◌%◌, ◌^◌, ◌<◌, ◌≤◌, Bool, false, eqb, List, [], ◌++◌, length, get_or, replicate, refl, sym, ◌∙◌, arith, bit_at, bit_and, cases_lt, and_mask, mod_below, pow_pos, shr-shr, ones_shr, bit_at-lt, bit_at_and, bit_at_ones, bit_at_above, same_from_bits, ext_get_or, get_or_past, get_or_append_left, get_or-append_right, get_or-replicate, length-append, length-replicate, length-map-range_with_len, get_or-map-range_with_len, bit_value, number, nat_tests, low_bits}
use Rattle.vers_bits.proofs.Num.{bit_at-number}

pub length-low_bits : (v n : ℕ) → length (low_bits v n) ≡ n
unfolding low_bits
length-low_bits v n = length-map-range_with_len (λ i. eqb (bit_at v i) 1) 0 n

pub get_or-low_bits : (v n i : ℕ) → i < n → get_or (low_bits v n) i false ≡ eqb (bit_at v i) 1
unfolding low_bits
get_or-low_bits v n i h = get_or-map-range_with_len (λ j. eqb (bit_at v j) 1) 0 n i i false h (omega arith)

-- a digit, 0 or 1, by the test for 1
pub bit_value_test : (m : ℕ) → m < 2 → bit_value (eqb m 1) ≡ m
bit_value_test m h = grind (arith, nat_tests)

pub test_bit_value : (b : Bool) → eqb (bit_value b) 1 ≡ b
test_bit_value b = grind arith

-- a number cut to its low w digits has those and no other
pub bit_at_mod : (x w i : ℕ) → i < w → bit_at (x % 2 ^ w) i ≡ bit_at x i
bit_at_mod x w i h = rw (← and_mask x w, bit_at_and, bit_at_ones w i h) (omega (arith, bit_at-lt x i))

pub bit_at_mod_above : (x w i : ℕ) → w ≤ i → bit_at (x % 2 ^ w) i ≡ 0
bit_at_mod_above x w i h = bit_at_above (x % 2 ^ w) w i (mod_below x (2 ^ w) (pow_pos w)) h

-- a list that agrees with the low digits of a number, position by position
pub low_bits_are : (v n : ℕ) (l : List Bool) → length l ≡ n → ((i : ℕ) → i < n → eqb (bit_at v i) 1 ≡ get_or l i false) → low_bits v n ≡ l
low_bits_are v n l e each =
    ext_get_or false (low_bits v n) l (length-low_bits v n ∙ sym e)
    (λ i h. let small : i < n = omega (arith, length-low_bits v n) in get_or-low_bits v n i small ∙ each i small)

pub low_bits_of_number : (l : List Bool) → low_bits (number l) (length l) ≡ l
low_bits_of_number l = low_bits_are (number l) (length l) l refl (λ i h. grind (arith, bit_at-number, test_bit_value))

pub low_bits_of_rest : (v n : ℕ) → low_bits (v % 2 ^ n) n ≡ low_bits v n
low_bits_of_rest v n = low_bits_are (v % 2 ^ n) n (low_bits v n) (length-low_bits v n) (λ i h. grind (arith, bit_at_mod, get_or-low_bits))

pub number-low_bits : (v n : ℕ) → number (low_bits v n) ≡ v % 2 ^ n
number-low_bits v n =
    same_from_bits (number (low_bits v n)) (v % 2 ^ n) (λ i.
    grind (arith, bit_at-number, cases_lt, get_or-low_bits, bit_value_test, bit_at-lt, bit_at_mod, get_or_past, length-low_bits, bit_at_mod_above))

low_bits_two : (v j k : ℕ) (high : List Bool) → length high ≡ k → ((i : ℕ) → i < k → eqb (bit_at v (j + i)) 1 ≡ get_or high i false) → low_bits v (j + k) ≡ low_bits v j ++ high
low_bits_two v j k high long each =
    low_bits_are v (j + k) (low_bits v j ++ high) (length-append (low_bits v j) high ∙ omega (arith, length-low_bits v j, long)) (λ i h.
    let past = each (i - j) in
    grind (arith, get_or_append_left, length-low_bits, get_or-low_bits, get_or-append_right))

pub low_bits-add : (v j k : ℕ) → low_bits v (j + k) ≡ low_bits v j ++ low_bits (v / 2 ^ j) k
low_bits-add v j k = low_bits_two v j k (low_bits (v / 2 ^ j) k) (length-low_bits (v / 2 ^ j) k) (λ i h. rw (get_or-low_bits (v / 2 ^ j) k i h, shr-shr) refl)

-- past the number's own digits there are zeros
pub low_bits_past : (v j k : ℕ) → v < 2 ^ j → low_bits v (j + k) ≡ low_bits v j ++ replicate k false
low_bits_past v j k small = low_bits_two v j k (replicate k false) (length-replicate k false) (λ i h. grind (arith, bit_at_above v j (j + i) small, get_or-replicate))

pub low_bits_none : (v : ℕ) → low_bits v 0 ≡ []
unfolding low_bits
low_bits_none v = refl

-- `word & (u64::MAX >> (64 - n))`
pub low_mask : (w n : ℕ) → n ≤ 64 → bit_and w (18446744073709551615 / 2 ^ (64 - n)) ≡ w % 2 ^ n
low_mask w n h = let width : 64 - (64 - n) ≡ n = omega arith in rw (ones_shr 64 (64 - n) (omega arith), width) (and_mask w n)

pub ruleset masks = (low_mask, mod_below, pow_pos)
