-- Worked rows of the definitions, which compute.
use Rattle.std.specs.Prelude.{◌≡◌, ℕ, false, true, List, [], ◌∷◌, map, None, Some, refl}
use Rattle.inverted.specs.Lists.{Lists, list_of}
use Rattle.inverted.specs.declared.fault.InvertedError.TheVariants.{TooLarge, OutOfRange, NotAscending}
use Rattle.inverted.specs.Makers.{is_before, lists_from, number_of, refusal_of}
use Rattle.inverted.specs.Numbers.{index_of_numbers, refusal_of_numbers}

-- three pairs of terms below 3 and documents below 10
abbrev three : List (ℕ × ℕ)
three = (0, 3) ∷ (0, 7) ∷ (2, 1) ∷ []

pub lists_from-three : lists_from three 3 ≡ (3 ∷ 7 ∷ []) ∷ [] ∷ (1 ∷ []) ∷ []
unfolding lists_from
lists_from-three = refl

pub numbers-three : map (number_of 10) three ≡ 3 ∷ 7 ∷ 21 ∷ []
numbers-three = refl

-- the index of these pairs
abbrev index : Lists
index = record { lists = (3 ∷ 7 ∷ []) ∷ [] ∷ (1 ∷ []) ∷ []; universe = 10; numbers = 3 ∷ 7 ∷ 21 ∷ [] }

pub list_of-2 : list_of index 2 ≡ 1 ∷ []
list_of-2 = refl

pub list_of-3 : list_of index 3 ≡ []
list_of-3 = refl

-- a pair is before those of later terms and those of later documents of its term
pub is_before-term : is_before (0, 7) (2, 1) ≡ true
is_before-term = refl

pub is_before-document : is_before (0, 7) (0, 3) ≡ false
is_before-document = refl

pub is_before-itself : is_before (0, 7) (0, 7) ≡ false
is_before-itself = refl

-- the three pairs have an index, and the first reason counts why others have none
pub refusal_of-three : refusal_of 3 10 three ≡ None
refusal_of-three = refl

pub refusal_of-large : refusal_of 18446744073709551615 2 ((9, 9) ∷ []) ≡ Some TooLarge
refusal_of-large = refl

pub refusal_of-term : refusal_of 2 10 three ≡ Some OutOfRange
refusal_of-term = refl

pub refusal_of-document : refusal_of 2 7 ((1, 0) ∷ (0, 7) ∷ []) ≡ Some OutOfRange
refusal_of-document = refl

pub refusal_of-twice : refusal_of 2 10 ((0, 3) ∷ (0, 3) ∷ []) ≡ Some NotAscending
refusal_of-twice = refl

-- and so have their numbers
pub index_of_numbers-three : index_of_numbers 3 10 (3 ∷ 7 ∷ 21 ∷ []) ≡ index
unfolding lists_from
index_of_numbers-three = refl

pub refusal_of_numbers-three : refusal_of_numbers 3 10 (3 ∷ 7 ∷ 21 ∷ []) ≡ None
refusal_of_numbers-three = refl

pub refusal_of_numbers-large : refusal_of_numbers 18446744073709551615 2 (9 ∷ []) ≡ Some TooLarge
refusal_of_numbers-large = refl

pub refusal_of_numbers-end : refusal_of_numbers 2 10 (3 ∷ 20 ∷ []) ≡ Some OutOfRange
refusal_of_numbers-end = refl

pub refusal_of_numbers-twice : refusal_of_numbers 2 10 (3 ∷ 3 ∷ []) ≡ Some NotAscending
refusal_of_numbers-twice = refl
