-- Worked rows of the definitions, which compute.
use Rattle.std.specs.Prelude.{◌≡◌, ℕ, List, [], ◌∷◌, refl}
use Rattle.std.specs.declared.ops.Bound.TheVariants.{Included, Excluded, Unbounded}
use Rattle.vers_tally.specs.Reads.{digits}
use Rattle.vers_rmq.specs.Minima.{lesser}
use Rattle.vers_rmq.specs.Layout.{binary_heap_size, fast_heap_size}
use Rattle.vers_rmq.specs.Ranges.{start_position, end_position}

-- items of which some are equal
abbrev items_31211 : List ℕ
items_31211 = 3 ∷ 1 ∷ 2 ∷ 1 ∷ 1 ∷ []

pub lesser-0-1 : lesser items_31211 0 1 ≡ 1
unfolding lesser
lesser-0-1 = refl

pub lesser-1-3 : lesser items_31211 1 3 ≡ 1
unfolding lesser
lesser-1-3 = refl

pub start_position-excluded : start_position (Excluded 0) 5 ≡ 1
start_position-excluded = refl

pub start_position-past : start_position (Included 9) 5 ≡ 4
start_position-past = refl

pub end_position-excluded : end_position (Excluded 3) 5 ≡ 2
end_position-excluded = refl

pub end_position-included : end_position (Included 3) 5 ≡ 3
end_position-included = refl

pub end_position-unbounded : end_position Unbounded 5 ≡ 4
end_position-unbounded = refl

pub end_position-greatest : end_position (Excluded 18446744073709551615) 5 ≡ 4
end_position-greatest = refl

pub binary_heap_size-11 : binary_heap_size 11 ≡ 308
unfolding digits
binary_heap_size-11 = refl

pub fast_heap_size-0 : fast_heap_size 0 ≡ 0
unfolding digits
fast_heap_size-0 = refl

pub fast_heap_size-128 : fast_heap_size 128 ≡ 1101
unfolding digits
fast_heap_size-128 = refl

pub fast_heap_size-300 : fast_heap_size 300 ≡ 2655
unfolding digits
fast_heap_size-300 = refl
