-- The arguments of a line: its words after the first. `None` if they are malformed.
use Rattle.std.specs.Prelude.{ℕ, ℤ, Bool, ◌||◌, ◌==◌, List, [], ◌∷◌, map, Option, Some, None, option_map, option_and_then, if◌then◌else◌}
use Rattle.std.specs.List.{list_all}
use Rattle.vers_words.specs.Text.{number_of, signed_number_of}

-- no argument
abbrev pub no_arguments : List (List ℕ) → Option (Unit {0})
no_arguments [] = Some tt
no_arguments (word ∷ more) = None

-- one number
abbrev pub one_number : List (List ℕ) → Option ℕ
one_number [] = None
one_number (word ∷ []) = number_of word
one_number (word ∷ other ∷ more) = None

-- two numbers
abbrev pub two_numbers : List (List ℕ) → Option (ℕ × ℕ)
two_numbers [] = None
two_numbers (first ∷ []) = None
two_numbers (first ∷ second ∷ []) = option_and_then (λ m. option_map (λ n. (m, n)) (number_of second)) (number_of first)
two_numbers (first ∷ second ∷ other ∷ more) = None

-- three numbers
abbrev pub three_numbers : List (List ℕ) → Option (ℕ × ℕ × ℕ)
three_numbers [] = None
three_numbers (first ∷ others) = option_and_then (λ l. option_map (λ more. (l, more.0, more.1)) (two_numbers others)) (number_of first)

-- a number and a signed number
abbrev pub number_and_signed : List (List ℕ) → Option (ℕ × ℤ)
number_and_signed [] = None
number_and_signed (first ∷ []) = None
number_and_signed (first ∷ second ∷ []) = option_and_then (λ m. option_map (λ n. (m, n)) (signed_number_of second)) (number_of first)
number_and_signed (first ∷ second ∷ other ∷ more) = None

-- any number of numbers
abbrev pub all_numbers : List (List ℕ) → Option (List ℕ)
all_numbers [] = Some []
all_numbers (word ∷ more) = option_and_then (λ n. option_map (λ others. n ∷ others) (all_numbers more)) (number_of word)

-- whether a byte is the digit 0 or 1
abbrev pub is_bit_digit : ℕ → Bool
is_bit_digit byte = (byte == 48) || (byte == 49)

-- the bits that digits 0 and 1 write
abbrev pub bits_of_digits : List ℕ → List Bool
bits_of_digits digits = map (λ digit. digit == 49) digits

-- the argument S: one word of the digits 0 and 1, or no word for the empty list
abbrev pub bits_of : List (List ℕ) → Option (List Bool)
bits_of [] = Some []
bits_of (word ∷ []) = if list_all is_bit_digit word then Some (bits_of_digits word) else None
bits_of (word ∷ other ∷ more) = None
