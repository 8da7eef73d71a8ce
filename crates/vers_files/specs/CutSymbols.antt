-- How many symbols a load line cuts to their low bits.
use Rattle.std.specs.Prelude.{ℕ, ◌^◌, List, [], ◌∷◌, length, filter, codes, bytes_eq, nat_le, Option, Some, None, if◌then◌else◌}
use Rattle.vers_words.specs.Arguments.{all_numbers}

-- how many numbers have more bits than the width
abbrev pub cut_among : ℕ → List ℕ → ℕ
cut_among width numbers = length (filter (λ n. nat_le (2 ^ width) n) numbers)

-- the same of the numbers after the first, which is the width; 0 if there is none, or one above 64
abbrev pub cut_of : Option (List ℕ) → ℕ
cut_of None = 0
cut_of (Some []) = 0
cut_of (Some (width ∷ numbers)) = if nat_le width 64 then cut_among width numbers else 0

-- how many symbols of a load line `symbols K n ..` have more than K bits; 0 for another line
abbrev pub symbols_cut : List (List ℕ) → ℕ
symbols_cut [] = 0
symbols_cut (word ∷ arguments) = if bytes_eq word (codes "symbols") then cut_of (all_numbers arguments) else 0
