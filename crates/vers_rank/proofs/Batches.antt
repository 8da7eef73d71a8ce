-- Numbers that are looked for level by level.
use Rattle.vers_rank.proofs.Names.{◌≡◌, ℕ, ◌+◌, ◌*◌, ◌/◌, ◌%◌, ◌<◌, ◌≤◌, Bool, List, length, arith, cases_lt, count, limb, select, count_le_all, count_near, count_past, select_past, held, held_in, number_of, IsIn, StandsFor}
use Rattle.vers_rank.proofs.Selects.{held_is, held_more, count_le_held}

-- a number that is reached before position j is before the end, and so do as many positions as it is past position i
pub inside_by : (b : Bool) (l : List Bool) (i d j : ℕ) → i ≤ j → count b l i + d < count b l j → (i + d < length l) × (i + d < j)
inside_by b l i d j order h = grind (arith, cases_lt i (length l), count_near b l i (length l), count_near b l i j, count_past b l i, count_le_all b l j)

-- the position as far into its stretch as the number in it
pub stands : (size : ℕ) (b : Bool) (l : List Bool) (r k rest q : ℕ) → q ≡ size * k + rest → q / size ≡ k → q % size ≡ rest → count b l (size * k) + rest ≡ r → r < count b l (size * (k + 1)) → StandsFor size b l r q
stands size b l r k rest q at stretch within number near = record {
  inside = λ _. omega (arith, at, (inside_by b l (size * k) rest (size * (k + 1)) (grind arith) (omega arith)).0);
  number = λ _. rw (stretch, within) number;
  near = λ _. rw stretch near;
  past = λ none. absurd (omega (arith, count_le_all b l (size * (k + 1))));
}

-- the same for a number that a position in a wider stretch is for
pub narrows : (wide size : ℕ) (b : Bool) (l : List Bool) (p k rest q : ℕ) → p < length l → q ≡ size * k + rest → q / size ≡ k → q % size ≡ rest
    → count b l (size * k) + rest ≡ number_of wide b l p → number_of wide b l p < count b l (size * (k + 1)) → (r : ℕ) → StandsFor wide b l r p → StandsFor size b l r q
narrows wide size b l p k rest q inside at stretch within number near r is = grind (arith, cases_lt, count, stands)

-- and is the answer where no position has the number
pub ends : (wide : ℕ) (b : Bool) (l : List Bool) (p : ℕ) → length l ≤ p → (r : ℕ) → StandsFor wide b l r p → p ≡ select b l r
ends wide b l p past r is = grind (arith, cases_lt r (count b l (length l)), select_past b l r)

-- a position that is for a number is one that the next level takes
pub takes : (size : ℕ) (b : Bool) (l : List Bool) (r p : ℕ) → StandsFor size b l r p → IsIn size b l p
takes size b l r p is inside = grind (arith, cases_lt r (count b l (length l)))

-- a number of a limb, among those of the whole list
pub near_limb : (b : Bool) (l : List Bool) (k rest n j : ℕ) → 64 * k < length l → held b l (64 * k) + rest ≡ n → rest < held_in b (limb l k) 64 → n < count b l j
    → (count b l (64 * k) + rest ≡ n) × (n < count b l (64 * (k + 1)))
near_limb b l k rest n j inside number few some =
    grind (arith, cases_lt (64 * (k + 1)) (length l), held_is b l (64 * k), held_more b l k, held_is b l (64 * (k + 1)), count_past b l (64 * (k + 1)), count_le_all b l j)

-- a number of a limb is one of the limb's own positions
pub few_in_limb : (b : Bool) (l : List Bool) (k rest : ℕ) → 64 * k < length l → count b l (64 * k) + rest < count b l (64 * (k + 1)) → (held b l (64 * k) ≡ count b l (64 * k)) × (rest < held_in b (limb l k) 64)
few_in_limb b l k rest inside near = grind (arith, held_is b l (64 * k), held_more b l k, count_le_held b l (64 * (k + 1)))
