-- Bits that are gathered in a word.
use Rattle.vers_bits.proofs.Names.{◌≡◌, ℕ, suc, ◌+◌, ◌*◌, ◌%◌, ◌^◌, ◌<◌, ◌≤◌, Bool, List, [], ◌∷◌, ◌++◌, length, map, take, drop, get_or, refl, ap, ◌∙◌, arith, bit_or, pow-le-pow_right, drop-cons, length-map, map-append, take-append-drop, div-mul-add, mod-mul-add, pow-add, shl_whole, bool_byte, bit_value, number, append_assoc, rules, or_shifted_r, low_bits}
use Rattle.vers_bits.proofs.Num.{number-lt, bit_value_le}
use Rattle.vers_bits.proofs.LowBits.{low_bits-add, low_bits_of_number, low_bits_of_rest}

-- a number of few digits is small
pub number_below : (l : List Bool) (k : ℕ) → length l ≤ k → number l < 2 ^ k
number_below l k few = omega (arith, number-lt l, pow-le-pow_right {n = 2} (omega arith) {i = length l} {j = k} few)

pub byte_value : (b : Bool) → bool_byte b ≡ bit_value b
byte_value b = grind arith

-- the number of the items from position i on, by that of the items after it
pub number_from : {X : Type 0} (f : X → Bool) (xs : List X) (i j : ℕ) (x : X) → i < length xs → j ≡ i + 1 → x ≡ get_or xs i x
    → 2 * number (map f (drop j xs)) + bit_value (f x) ≡ number (map f (drop i xs))
number_from f xs i j x h next is =
    let here : drop i xs ≡ get_or xs i x ∷ drop (suc i) xs = drop-cons xs i x h in
    let after : j ≡ suc i = omega arith in
    rw (here, ← is, after) (omega arith)

-- the items that were gathered in a word go over to the list of bits
pub limb_gathered : {X : Type 0} (f : X → Bool) (l more : List Bool) (rest front back : List X) (m w : ℕ) → front ≡ take m rest → back ≡ drop m rest
    → w ≡ number (map f front) → more ≡ l ++ low_bits w (length front) → more ++ map f back ≡ l ++ map f rest
limb_gathered f l more rest front back m w first last word grown =
    let all : front ++ back ≡ rest = rw (first, last) (take-append-drop m rest) in
    rw (grown, word, ← length-map front f, low_bits_of_number, append_assoc, ← map-append, all) refl

-- one more digit above the others
pub digit_added : (w n : ℕ) (b : Bool) → n < 64 → w < 2 ^ n → bit_or w (bit_value b * 2 ^ n % 18446744073709551616) ≡ bit_value b * 2 ^ n + w
digit_added w n b short small =
    ap (bit_or w) (search (rules, shl_whole, bit_value_le)) ∙ or_shifted_r (bit_value b) n w small

low_bits_of_bit : (b : Bool) → low_bits (bit_value b) 1 ≡ b ∷ []
unfolding low_bits
low_bits_of_bit b = grind arith

pub digits_gathered : (w n : ℕ) (b : Bool) → n < 64 → w < 2 ^ n → low_bits (bit_or w (bit_value b * 2 ^ n % 18446744073709551616)) (n + 1) ≡ low_bits w n ++ b ∷ []
digits_gathered w n b short small = grind (arith, low_bits_of_rest, mod-mul-add, div-mul-add, low_bits_of_bit, digit_added, low_bits-add)

pub gathered_below : (w n : ℕ) (b : Bool) → n < 64 → w < 2 ^ n → bit_or w (bit_value b * 2 ^ n % 18446744073709551616) < 2 ^ (n + 1)
gathered_below w n b short small = rw (digit_added w n b short small) (grind (arith, pow-add 2 n 1))

pub ruleset digits = (byte_value, digits_gathered, gathered_below)
