-- Worked rows of the definitions, which compute.
use Rattle.std.specs.Prelude.{◌≡◌, [], ◌∷◌, true, false, Some, None, refl}
use Rattle.vers_rmq.specs.Minima.{is_least, first_least_of}
use Rattle.vers_sorted.specs.Sorted.{is_element}
use Rattle.postings.specs.Posted.{Posted, positions_between, cheapest, common}

-- four documents, of which two have the least cost
abbrev four : Posted
four = record { documents = 2 ∷ 5 ∷ 9 ∷ 12 ∷ []; costs = 7 ∷ 3 ∷ 3 ∷ 8 ∷ [] }

pub cheapest-all : cheapest four 0 18446744073709551615 ≡ Some 5
unfolding cheapest positions_between first_least_of is_least
cheapest-all = refl

pub cheapest-6-12 : cheapest four 6 12 ≡ Some 9
unfolding cheapest positions_between first_least_of is_least
cheapest-6-12 = refl

pub cheapest-6-8 : cheapest four 6 8 ≡ None
unfolding cheapest positions_between first_least_of is_least
cheapest-6-8 = refl

pub cheapest-9-2 : cheapest four 9 2 ≡ None
unfolding cheapest positions_between first_least_of is_least
cheapest-9-2 = refl

pub common-5-12 : common four.documents (5 ∷ 6 ∷ 12 ∷ 40 ∷ []) ≡ 5 ∷ 12 ∷ []
unfolding common is_element
common-5-12 = refl
