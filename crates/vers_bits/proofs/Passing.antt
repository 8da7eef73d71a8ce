-- The first elements of a list, where they and no others pass a test.
use Rattle.vers_bits.proofs.Names.{◌≡◌, ℕ, zero, suc, ◌<◌, Bool, true, cond, List, [], ◌∷◌, length, get_or, arith, cases_Bool, count_by, sum_by-cons, count_by-le-length, nat_tests, ltb, AllPairs}

-- an item more before those of which it is known
step : (p : ℕ → Bool) (x : ℕ) (xs : List ℕ) → ((j : ℕ) → j < length xs → p (get_or xs j 0) ≡ true → p x ≡ true) → ((j : ℕ) → j < length xs → p (get_or xs j 0) ≡ ltb j (count_by p xs))
    → (k : ℕ) → k < length (x ∷ xs) → p (get_or (x ∷ xs) k 0) ≡ ltb k (count_by p (x ∷ xs))
step p x xs down rest zero inside = grind (arith, nat_tests, cases_Bool (p x), sum_by-cons (λ y. cond (p y) 1 0) x xs, count_by-le-length p xs, down 0, rest 0)
step p x xs down rest (suc k) inside = grind (arith, nat_tests, cases_Bool (p x), sum_by-cons (λ y. cond (p y) 1 0) x xs, down k, rest k)

-- a test that no element passes after one that fails is passed by the first elements, as many as it counts
pub passes_first : (p : ℕ → Bool) (xs : List ℕ) → AllPairs (λ x y. p y ≡ true → p x ≡ true) xs → (k : ℕ) → k < length xs → p (get_or xs k 0) ≡ ltb k (count_by p xs)
passes_first p [] down k inside = absurd (omega arith)
passes_first p (x ∷ xs) down k inside =
    step p x xs (λ j h. down 0 (suc j) 0 (omega arith) (omega arith)) (passes_first p xs (λ i j d before within. down (suc i) (suc j) d (omega arith) (omega arith))) k inside
