-- Worked rows of the definitions, which compute.
use Rattle.std.specs.Prelude.{◌≡◌, ℕ, false, true, List, [], ◌∷◌, Some, None, nat_le, nat_lt, refl}
use Rattle.vers_bits.specs.Bits.{count, low_bits, positions, select}
use Rattle.vers_tally.specs.Reads.{digits}
use Rattle.vers_sorted.specs.Sorted.{each_next, is_element, below, greatest_not_above, least_not_below, delta}
use Rattle.vers_sorted.specs.Ones.{ones_at}
use Rattle.vers_sorted.specs.Layout.{width, low_width, high_of, high_length, high_parts, low_parts, heap_size_of, elements, low_count, high_count}

-- an ascending list with equal elements
abbrev elements_2449 : List ℕ
elements_2449 = 2 ∷ 4 ∷ 4 ∷ 9 ∷ []

pub is_element-4 : is_element elements_2449 4 ≡ true
unfolding is_element
is_element-4 = refl

pub is_element-5 : is_element elements_2449 5 ≡ false
unfolding is_element
is_element-5 = refl

pub below-4 : below elements_2449 4 ≡ 1
unfolding below
below-4 = refl

pub below-5 : below elements_2449 5 ≡ 3
unfolding below
below-5 = refl

pub below-2 : below elements_2449 2 ≡ 0
unfolding below
below-2 = refl

pub greatest_not_above-8 : greatest_not_above elements_2449 8 ≡ Some 4
unfolding greatest_not_above
greatest_not_above-8 = refl

pub greatest_not_above-1 : greatest_not_above elements_2449 1 ≡ None
unfolding greatest_not_above
greatest_not_above-1 = refl

pub least_not_below-4 : least_not_below elements_2449 4 ≡ Some 4
unfolding least_not_below
least_not_below-4 = refl

pub least_not_below-10 : least_not_below elements_2449 10 ≡ None
unfolding least_not_below
least_not_below-10 = refl

pub delta-0 : delta elements_2449 0 ≡ Some 2
unfolding delta
delta-0 = refl

pub delta-2 : delta elements_2449 2 ≡ Some 0
unfolding delta
delta-2 = refl

pub delta-3 : delta elements_2449 3 ≡ Some 5
unfolding delta
delta-3 = refl

pub delta-4 : delta elements_2449 4 ≡ None
unfolding delta
delta-4 = refl

pub each_next-equal : each_next nat_le elements_2449 ≡ true
each_next-equal = refl

pub each_next-strict : each_next nat_lt elements_2449 ≡ false
each_next-strict = refl

-- ---- the layout of four elements
abbrev elements_0147 : List ℕ
elements_0147 = 0 ∷ 1 ∷ 4 ∷ 7 ∷ []

pub low_width-0147 : low_width elements_0147 ≡ 1
unfolding low_width width digits
low_width-0147 = refl

-- nine bits with ones at the positions 1, 2, 5 and 7
pub high_parts-0147 : high_parts elements_0147 ≡ false ∷ true ∷ true ∷ false ∷ false ∷ true ∷ false ∷ true ∷ false ∷ []
unfolding high_parts high_length high_of ones_at is_element low_width width digits
high_parts-0147 = refl

pub low_parts-0147 : low_parts elements_0147 ≡ false ∷ true ∷ false ∷ true ∷ []
unfolding low_parts low_width width digits low_bits
low_parts-0147 = refl

pub heap_size-0147 : heap_size_of elements_0147 ≡ 58
unfolding high_parts high_length high_of ones_at is_element low_parts low_width width digits low_bits count
heap_size-0147 = refl

-- which say the elements
pub elements-0147 : elements (false ∷ true ∷ true ∷ false ∷ false ∷ true ∷ false ∷ true ∷ false ∷ []) (false ∷ true ∷ false ∷ true ∷ []) 0 1 4 ≡ elements_0147
unfolding elements select positions
elements-0147 = refl

pub low_count-0147 : low_count 4 7 ≡ 4
unfolding width digits
low_count-0147 = refl

pub high_count-0147 : high_count 4 7 ≡ 9
unfolding width digits
high_count-0147 = refl

-- no elements have no bits
pub high_parts-nothing : high_parts [] ≡ []
unfolding high_parts high_length ones_at is_element
high_parts-nothing = refl

pub low_parts-nothing : low_parts [] ≡ []
unfolding low_parts
low_parts-nothing = refl
