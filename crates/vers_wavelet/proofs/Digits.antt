-- Digits of numbers, and numbers that are made digit by digit from the highest on.
use Rattle.vers_wavelet.proofs.Names.{◌≡◌, ℕ, zero, suc, ◌+◌, ◌-◌, ◌*◌, ◌/◌, ◌%◌, ◌^◌, ◌<◌, ◌≤◌, Bool, true, false, eqb, List, [], ◌∷◌, length, set, get_or, replicate, refl, sym, ap, subst, ◌∙◌, arith, add-one, bit_at, bit_and, pow-suc, pow-le-pow_right, mod-eq_of_lt, mod-lt, mul-le-mul_right, bit_value_le, shr_and_one, bit_at-lt, one_shl, mod-pow-add, mod_low, div-add-mod', pow_pos, bit_value, number, bit_at-number, number-lt, bit_value_test, test_bit_value, digit, HasRoom}

-- of a machine's number
pub word_digit : (n i : ℕ) → eqb (bit_and (n / 2 ^ i) 1) 1 ≡ digit n i
word_digit n i = ap (λ d. eqb d 1) (shr_and_one n i)

pub word_room : (number i : ℕ) → i < 64 → HasRoom 64 (i + 1) number → number + 1 * 2 ^ i % 2 ^ 64 < 2 ^ 64
word_room number i h room = omega (arith, one_shl i 64 h, room.fits, pow-suc 2 i, ap (λ n. 2 ^ n) (add-one i))

pub ruleset words = (word_digit, word_room, one_shl)

-- of a list
pub list_digit : (l : List Bool) (i : ℕ) → get_or l i false ≡ digit (number l) i
list_digit l i = sym (test_bit_value (get_or l i false)) ∙ ap (λ d. eqb d 1) (sym (bit_at-number l i))

-- the highest of the k + 1 lowest digits, and the others
pub digit_value : (s i : ℕ) → bit_value (digit s i) ≡ s / 2 ^ i % 2
digit_value s i = bit_value_test (bit_at s i) (bit_at-lt s i)

pub top_digit : (s k : ℕ) → s % 2 ^ (k + 1) ≡ bit_value (digit s k) * 2 ^ k + s % 2 ^ k
top_digit s k =
    let e : k + 1 ≡ 1 + k = omega arith in
    ap (λ n. s % 2 ^ n) e ∙ mod-pow-add s 1 k ∙ ap (λ d. d * 2 ^ k + s % 2 ^ k) (sym (digit_value s k))

-- their sum determines a digit and what is less than its weight
pub one_split : (b c : Bool) (w x y : ℕ) → x < w → y < w → bit_value b * w + x ≡ bit_value c * w + y → (b ≡ c) × (x ≡ y)
one_split b c w x y less fewer e = grind arith

clear_digit : (s k : ℕ) → s % 2 ^ (k + 1) ≡ 0 → digit s k ≡ false
clear_digit s k clear = (one_split (digit s k) false (2 ^ k) (s % 2 ^ k) 0 (mod-lt s (pow_pos k)) (pow_pos k) (omega (arith, top_digit s k))).0

number-set : (l : List Bool) (i : ℕ) → i < length l → get_or l i false ≡ false → number (set l i true) ≡ number l + 2 ^ i
number-set [] i h off = absurd (omega arith)
number-set (b ∷ l) zero h off = omega (arith, ap bit_value off)
number-set (b ∷ l) (suc i) h off = omega (arith, number-set l i (omega arith) off, pow-suc 2 i)

pub list_set : (l : List Bool) (i : ℕ) → i < length l → HasRoom (length l) (i + 1) (number l) → number (set l i true) ≡ number l + 2 ^ i
list_set l i h room = number-set l i h (list_digit l i ∙ clear_digit (number l) i room.clear)

pub ruleset lists = (list_digit, list_set)

-- ---- room for more digits

pub room_none : (n k : ℕ) → k ≤ n → HasRoom n k 0
room_none n k h = record { clear = omega arith; fits = omega (arith, pow-le-pow_right {n = 2} (omega arith) {i = k} {j = n} h) }

-- room for the digits that are left is room for one, and for those after it
pub room_left : {n number : ℕ} (m k : ℕ) → k < m → HasRoom n (m - k) number → HasRoom n (m - (k + 1) + 1) number
room_left {n} {number} m k h room = let e : m - k ≡ m - (k + 1) + 1 = omega arith in subst (λ (j : ℕ). HasRoom n j number) e room

pub room_more : (bit : Bool) (n k number : ℕ) → HasRoom n (k + 1) number → HasRoom n k (number + bit_value bit * 2 ^ k)
room_more bit n k number room =
    let two : 2 ^ (k + 1) ≡ 2 * 2 ^ k = omega (arith, pow-suc 2 k, ap (λ m. 2 ^ m) (add-one k)) in
    let q : ℕ = number / 2 ^ (k + 1) in
    let parts : number ≡ q * (2 * 2 ^ k) = sym (div-add-mod' number (2 ^ (k + 1))) ∙ ap (λ x. q * 2 ^ (k + 1) + x) room.clear ∙ ap (λ x. q * x + 0) two ∙ omega arith in
    let e : number + bit_value bit * 2 ^ k ≡ (2 * q + bit_value bit) * 2 ^ k + 0 = omega (arith, parts) in
    record {
      clear = ap (λ x. x % 2 ^ k) e ∙ mod_low (2 * q + bit_value bit) k 0 (omega (arith, pow_pos k));
      fits = omega (arith, room.fits, two, mul-le-mul_right (2 ^ k) (bit_value_le bit));
    }

-- ---- symbols as lists

pub whole_symbol : (l : List Bool) (k : ℕ) → length l ≡ k → number l % 2 ^ k ≡ number l
whole_symbol l k e = let h : number l < 2 ^ k = rw (← e) (number-lt l) in mod-eq_of_lt h

pub number-zeros : (n : ℕ) → number (replicate n false) ≡ 0
number-zeros zero = refl
number-zeros (suc n) = omega (arith, number-zeros n)

pub ruleset symbols = (whole_symbol, number-zeros)
