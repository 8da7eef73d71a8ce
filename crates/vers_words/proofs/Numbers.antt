-- Numbers, found from the front of their digits.
use Rattle.vers_words.proofs.Imports.{◌≡◌, ◌+◌, ◌*◌, ◌-◌, ◌^◌, ◌<◌, ◌≤◌, ℕ, true, false, List, [], ◌∷◌, ◌++◌, append_assoc, sym, ap, length, take, get_or, Option, Some, None, refl, arith, list_all, is_ascii_digit, digits_value, le-ltb, nat_tests, option_map, number_of}
use Rattle.std.proofs.Math.Bool.{and-false}
use Rattle.std.proofs.lemmas.Int.Digits.{digits_value_more}
use Rattle.std.proofs.lemmas.Str.Parse.{digits_value-take-le}

-- one more digit
pub digits_value-digit : (w : List ℕ) (i : ℕ) → i < length w → is_ascii_digit (get_or w i 0) ≡ true
    → digits_value 10 (take (i + 1) w) ≡ digits_value 10 (take i w) * 10 + (get_or w i 0 - 48)
digits_value-digit w i h d = rw (digits_value_more 10 w i h) (grind (arith, nat_tests))

-- digits too large for 64 bits make the whole too large
pub large_at : (w : List ℕ) (i : ℕ) → i < length w → is_ascii_digit (get_or w i 0) ≡ true
    → 2 ^ 64 ≤ digits_value 10 (take i w) * 10 + (get_or w i 0 - 48) → 2 ^ 64 ≤ digits_value 10 w
large_at w i h d k = omega (arith, digits_value-digit w i h d, digits_value-take-le 10 w (i + 1) (omega arith))

-- when a word writes a number, and which
pub number_of-other : (w : List ℕ) → list_all is_ascii_digit w ≡ false → number_of w ≡ None
unfolding number_of
number_of-other w h = rw (h, and-false) refl

pub number_of-large : (w : List ℕ) → 2 ^ 64 ≤ digits_value 10 w → number_of w ≡ None
unfolding number_of
number_of-large w h = rw (le-ltb (digits_value 10 w) (2 ^ 64) h, and-false, and-false) refl

-- numbers, and then those of further words
abbrev pub numbers_then : List ℕ → Option (List ℕ) → Option (List ℕ)
numbers_then numbers others = option_map (λ more. numbers ++ more) others

pub numbers_then-none : (others : Option (List ℕ)) → numbers_then [] others ≡ others
numbers_then-none None = refl
numbers_then-none (Some more) = refl

pub numbers_then-push : (numbers : List ℕ) (n : ℕ) (others : Option (List ℕ)) → numbers_then numbers (option_map (λ more. n ∷ more) others) ≡ numbers_then (numbers ++ n ∷ []) others
numbers_then-push numbers n None = refl
numbers_then-push numbers n (Some more) = ap Some (sym (append_assoc numbers (n ∷ []) more))

-- how many numbers there are, and those of further words
abbrev pub count_then : ℕ → Option (List ℕ) → Option ℕ
count_then n others = option_map (λ more. n + length more) others
