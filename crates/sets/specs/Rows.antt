-- Worked rows of the definitions, which compute.
use Rattle.std.specs.Prelude.{◌≡◌, ℕ, false, true, List, [], ◌∷◌, refl}
use Rattle.sets.specs.Sets.{in_all, in_any, in_both, in_either, in_difference}
use Rattle.vers_sorted.specs.Sorted.{is_element}

-- an ascending list with equal elements, and one without
abbrev elements_2449 : List ℕ
elements_2449 = 2 ∷ 4 ∷ 4 ∷ 9 ∷ []

abbrev elements_459 : List ℕ
elements_459 = 4 ∷ 5 ∷ 9 ∷ []

pub in_both-2 : in_both elements_2449 elements_459 2 ≡ false
unfolding is_element
in_both-2 = refl

pub in_both-9 : in_both elements_2449 elements_459 9 ≡ true
unfolding is_element
in_both-9 = refl

pub in_either-5 : in_either elements_2449 elements_459 5 ≡ true
unfolding is_element
in_either-5 = refl

pub in_difference-2 : in_difference elements_2449 elements_459 2 ≡ true
unfolding is_element
in_difference-2 = refl

pub in_difference-4 : in_difference elements_2449 elements_459 4 ≡ false
unfolding is_element
in_difference-4 = refl

pub in_all-9 : in_all elements_2449 (elements_459 ∷ elements_2449 ∷ []) 9 ≡ true
unfolding is_element
in_all-9 = refl

pub in_all-5 : in_all elements_459 (elements_2449 ∷ []) 5 ≡ false
unfolding is_element
in_all-5 = refl

pub in_any-5 : in_any (elements_2449 ∷ elements_459 ∷ []) 5 ≡ true
unfolding is_element
in_any-5 = refl

pub in_any-none : in_any [] 5 ≡ false
in_any-none = refl
