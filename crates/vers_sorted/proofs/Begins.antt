-- What searches begin with.
use Rattle.vers_sorted.proofs.Names.{◌≡◌, ℕ, ◌+◌, ◌-◌, ◌<◌, ◌≤◌, false, List, length, arith, set, slice_index, IsNonDecreasing, get_or-set_other, get_or-set_same, select, first_of, last_of, high_of, high_parts, IsInside, IsBegun, ◌≢◌, below_more}
use Rattle.vers_sorted.proofs.Buckets.{start_at}
use Rattle.vers_sorted.proofs.Makes.{last_none}
use Rattle.vers_sorted.proofs.Split.{high_up}

-- a number that is above the first of some and not above the last: there are some
pub inside : (s : List ℕ) (v : ℕ) → first_of s < v → v ≤ last_of s → IsInside s v
inside s v from to = grind (arith, last_none)

-- the first of the elements with the high part of v, or the one after if there are none
pub first_within : (s : List ℕ) (v before : ℕ) → IsNonDecreasing s → IsInside s v → before ≡ select false (high_parts s) (high_of s v)
    → (high_of s v ≤ before) × (before - high_of s v < length s)
first_within s v before up is b = grind (arith, high_up, start_at)

-- one more number that is begun, at a position past those that were before it
pub begun_more : (s asked before after parts : List ℕ) (j x y : ℕ) → j < length after → j < length parts
    → ((k : ℕ) → k < j → IsInside s (slice_index asked k) → IsBegun s (slice_index asked k) (slice_index before k) (slice_index after k) (slice_index parts k))
    → IsBegun s (slice_index asked j) (slice_index before j) x y
    → (k : ℕ) → k < j + 1 → IsInside s (slice_index asked k) → IsBegun s (slice_index asked k) (slice_index before k) (slice_index (set after j x) k) (slice_index (set parts j y) k)
begun_more s asked before after parts j x y a p old here =
    below_more _ _
    (λ k h. let other : k ≢ j = omega arith in rw (get_or-set_other after j k x 0 other, get_or-set_other parts j k y 0 other) (old k h))
    (λ inside. rw (get_or-set_same after j x 0 a, get_or-set_same parts j y 0 p) here)

pub ruleset insides = (inside)
