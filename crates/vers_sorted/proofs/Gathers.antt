-- Low parts that are gathered in a word before they are appended.
use Rattle.vers_sorted.proofs.Names.{◌≡◌, ℕ, ◌+◌, ◌-◌, ◌*◌, ◌/◌, ◌%◌, ◌^◌, ◌<◌, ◌≤◌, Bool, List, [], ◌∷◌, ◌++◌, length, refl, sym, ap, ◌∙◌, append_assoc, append-nil, flat_map-append, arith, bit_and, bit_or, mul-mod_left, pow-le-pow_right, length-append, and_mask, div-mul-add, mod-mul-add, mod-pow-add, mod_below, mod_low, one_shl, or_lt, pow_pos, shl-shr, shl_below, shl_whole, shr_below, length-low_bits, low_bits-add, low_bits_of_rest, length-packed, low_bits, pack}
use Rattle.std.specs.Int.Bits.{or_shifted_r}

-- the lowest digits of the lowest digits
pub rest_of_rest : (v k m : ℕ) → m ≤ k → v % 2 ^ k % 2 ^ m ≡ v % 2 ^ m
rest_of_rest v k m few =
    let whole : k - m + m ≡ k = omega arith in
    grind (arith, mod-pow-add, mod_low, mod_below, pow_pos)

first_digits : (v k m : ℕ) → m ≤ k → low_bits (v % 2 ^ k) m ≡ low_bits v m
first_digits v k m few = sym (low_bits_of_rest (v % 2 ^ k) m) ∙ ap (λ r. low_bits r m) (rest_of_rest v k m few) ∙ low_bits_of_rest v m

-- a number put above n digits of a word loses those that don't fit
pub shifted : (part n : ℕ) → n ≤ 64 → part * 2 ^ n % 18446744073709551616 ≡ part % 2 ^ (64 - n) * 2 ^ n
shifted part n few =
    let whole : 18446744073709551616 ≡ 2 ^ (64 - n + n) = grind arith in
    rw (whole, mod-pow-add, shl-shr, mul-mod_left) (omega arith)

-- its digits are those of both, as many as fit
digits_of_both : (word part n m : ℕ) → n ≤ 64 → word < 2 ^ n → m ≤ 64 - n
    → low_bits (bit_or word (part * 2 ^ n % 18446744073709551616)) (n + m) ≡ low_bits word n ++ low_bits part m
digits_of_both word part n m few small fits = grind (arith, low_bits_of_rest, mod-mul-add, div-mul-add, first_digits, shifted, or_shifted_r, low_bits-add)

-- a part that fits stays in the word
pub stays_small : (word part n w : ℕ) → word < 2 ^ n → part < 2 ^ w → n + w ≤ 64 → bit_or word (part * 2 ^ n % 18446744073709551616) < 2 ^ (n + w)
stays_small word part n w small narrow fits =
    grind (arith, shl_below part w n narrow, small, pow-le-pow_right, shl_whole, or_lt)

pub stays : (l : List Bool) (word v n w : ℕ) → word < 2 ^ n → n + w ≤ 64
    → l ++ low_bits (bit_or word (v % 2 ^ w * 2 ^ n % 18446744073709551616)) (n + w) ≡ (l ++ low_bits word n) ++ low_bits v w
stays l word v n w small fits = grind (arith, digits_of_both, low_bits_of_rest, append_assoc)

-- and one that doesn't fills the word, and continues in the next
pub fills : (l more : List Bool) (word v n w : ℕ) → word < 2 ^ n → n < 64 → 64 ≤ n + w
    → more ≡ l ++ low_bits (bit_or word (v % 2 ^ w * 2 ^ n % 18446744073709551616)) 64
    → more ++ low_bits (v % 2 ^ w / 2 ^ (64 - n)) (n + w - 64) ≡ (l ++ low_bits word n) ++ low_bits v w
fills l more word v n w small few full e =
    let here : n + (64 - n) ≡ 64 = omega arith in
    let all : 64 - n + (n + w - 64) ≡ w = omega arith in
    let both = low_bits-add (v % 2 ^ w) (64 - n) (n + w - 64) in
    grind (arith, digits_of_both, low_bits_of_rest, append_assoc)

pub goes_on : (part n w : ℕ) → part < 2 ^ w → n < 64 → 64 ≤ n + w → part / 2 ^ (64 - n) < 2 ^ (n + w - 64)
goes_on part n w narrow few full = grind (arith, shr_below)

-- the lowest digits of a number, by a mask
pub low_digits : (v w : ℕ) → w < 64 → bit_and v (1 * 2 ^ w % 18446744073709551616 - 1) ≡ v % 2 ^ w
low_digits v w narrow = ap (λ m. bit_and v (m - 1)) (one_shl w 64 narrow) ∙ and_mask v w

-- a full word is put behind the others
pub pack_more : (ws : List ℕ) (word : ℕ) → pack (ws ++ word ∷ []) 64 ≡ pack ws 64 ++ low_bits word 64
pack_more ws word = rw (flat_map-append (λ w. low_bits w 64) ws (word ∷ []), append-nil (low_bits word 64)) refl

pub fills_words : (ws new : List ℕ) (word v n w : ℕ) → word < 2 ^ n → n < 64 → 64 ≤ n + w
    → new ≡ ws ++ bit_or word (v % 2 ^ w * 2 ^ n % 18446744073709551616) ∷ []
    → pack new 64 ++ low_bits (v % 2 ^ w / 2 ^ (64 - n)) (n + w - 64) ≡ (pack ws 64 ++ low_bits word n) ++ low_bits v w
fills_words ws new word v n w small few full e =
    fills (pack ws 64) (pack new 64) word v n w small few full
    (ap (λ l. pack l 64) e ∙ pack_more ws (bit_or word (v % 2 ^ w * 2 ^ n % 18446744073709551616)))

-- nothing is gathered at first
pub none_gathered : (words : List ℕ) (first : List Bool) → words ≡ [] → [] ≡ first → pack words 64 ++ low_bits 0 0 ≡ first
unfolding low_bits
none_gathered words first none e = rw none e

-- how long the list and what is gathered are together
pub so_many : (l all : List Bool) (word n : ℕ) → l ++ low_bits word n ≡ all → length l + n ≡ length all
so_many l all word n e = omega (arith, ap length e, length-append l (low_bits word n), length-low_bits word n)

-- there is room for another word within the words that all parts take
pub room_for_word : (words : List ℕ) (n w total capacity : ℕ) → length (pack words 64) + n + w ≤ total → 64 ≤ n + w → (total + 63) / 64 ≤ capacity → length words < capacity
room_for_word words n w total capacity fits full room =
    let long : 64 * length words ≡ length (pack words 64) = omega (arith, length-packed (λ v. v) 64 words) in
    omega (arith, long, fits, full, room)

pub ruleset gathers = (stays_small, goes_on, low_digits, stays, fills_words)
