-- Worked rows of the definitions, which compute.
use Rattle.std.specs.Prelude.{◌≡◌, ℕ, List, [], ◌∷◌, Some, None, refl}
use Rattle.vers_wavelet.specs.Symbols.{by_size, reversed_digits, gathered, occurrences, range_elements, kth_by_size, greatest_up_to, least_from}

-- the symbols 5, 1, 3, 1
abbrev symbols_5131 : List ℕ
symbols_5131 = 5 ∷ 1 ∷ 3 ∷ 1 ∷ []

pub by_size-5131 : by_size symbols_5131 ≡ 1 ∷ 1 ∷ 3 ∷ 5 ∷ []
by_size-5131 = refl

pub range_elements-1_3 : range_elements symbols_5131 1 3 ≡ 1 ∷ 3 ∷ []
unfolding range_elements
range_elements-1_3 = refl

-- a range that ends past the list, and one that ends before it begins
pub range_elements-1_5 : range_elements symbols_5131 1 5 ≡ []
unfolding range_elements
range_elements-1_5 = refl

pub range_elements-3_1 : range_elements symbols_5131 3 1 ≡ []
unfolding range_elements
range_elements-3_1 = refl

pub kth_by_size-1 : kth_by_size symbols_5131 1 ≡ Some 1
unfolding kth_by_size
kth_by_size-1 = refl

pub kth_by_size-4 : kth_by_size symbols_5131 4 ≡ None
unfolding kth_by_size
kth_by_size-4 = refl

pub greatest_up_to-4 : greatest_up_to symbols_5131 4 ≡ Some 3
unfolding greatest_up_to
greatest_up_to-4 = refl

pub greatest_up_to-0 : greatest_up_to symbols_5131 0 ≡ None
unfolding greatest_up_to
greatest_up_to-0 = refl

pub least_from-4 : least_from symbols_5131 4 ≡ Some 5
unfolding least_from
least_from-4 = refl

pub least_from-6 : least_from symbols_5131 6 ≡ None
unfolding least_from
least_from-6 = refl

-- of three digits the symbols are 101, 001, 011 and 001, which from the lowest digit on are 5, 4, 6 and 4: in that order they are 1, 1, 5, 3
pub reversed_digits-3 : reversed_digits 3 3 ≡ 6
unfolding reversed_digits
reversed_digits-3 = refl

pub gathered-1_3 : gathered (record { width = 3; items = symbols_5131 }) 3 1 ≡ 1
unfolding reversed_digits occurrences
gathered-1_3 = refl

pub gathered-5_0 : gathered (record { width = 3; items = symbols_5131 }) 0 5 ≡ 2
unfolding reversed_digits occurrences
gathered-5_0 = refl

pub gathered-3_2 : gathered (record { width = 3; items = symbols_5131 }) 2 3 ≡ 3
unfolding reversed_digits occurrences
gathered-3_2 = refl
