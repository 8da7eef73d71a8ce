-- Numbers that are in an order, each to the next.
use Rattle.vers_sorted.proofs.Names.{◌≡◌, ℕ, zero, suc, ◌<◌, Bool, true, false, List, [], ◌∷◌, length, get_or, nat_le, nat_lt, refl, sym, ◌∙◌, arith, add-one, ◌↔◌, All, IsTrue, list_all, IsNonDecreasing, IsStrictlyIncreasing, leb-true, le-leb, ltb-true, lt-ltb, get_or_default, and_parts, IsNonDecreasingBy-from_all_adjacent, AllPass-from_list_all, list_all-from_AllPass, each_next}
use Rattle.std.specs.Prelude.{◌≤◌, nat_eq}
use Rattle.std.proofs.Math.Bool.{and-false}

-- number k and the next
abbrev pair_at : (ℕ → ℕ → Bool) → List ℕ → ℕ → Bool
pair_at order xs k = order (get_or xs k 0) (get_or xs (suc k) 0)

-- all neighbours are in the order
pub each_next-true : (order : ℕ → ℕ → Bool) (xs : List ℕ) → ((k : ℕ) → suc k < length xs → pair_at order xs k ≡ true) → each_next order xs ≡ true
each_next-true order [] h = refl
each_next-true order (x ∷ []) h = refl
each_next-true order (x ∷ y ∷ xs) h =
    rw (h 0 (omega arith), each_next-true order (y ∷ xs) (λ k l. h (suc k) (omega arith))) refl

-- some neighbours don't
each_next-false : (order : ℕ → ℕ → Bool) (xs : List ℕ) (k : ℕ) → suc k < length xs → pair_at order xs k ≡ false → each_next order xs ≡ false
each_next-false order [] k l h = absurd (omega arith)
each_next-false order (x ∷ []) k l h = absurd (omega arith)
each_next-false order (x ∷ y ∷ xs) zero l h = rw h refl
each_next-false order (x ∷ y ∷ xs) (suc k) l h = rw (each_next-false order (y ∷ xs) k (omega arith) h) (and-false _)

-- whether no pair of n + 1 numbers is out of order, by a number of faults
pub no_faults : (order : ℕ → ℕ → Bool) (xs : List ℕ) (n faults : ℕ) → length xs ≤ suc n
    → (faults ≡ 0 → (k : ℕ) → k < n → pair_at order xs k ≡ true) → (0 < faults → (k : ℕ) × (suc k < length xs) × (pair_at order xs k ≡ false))
    → nat_eq faults 0 ≡ each_next order xs
no_faults order xs n zero long none some = sym (each_next-true order xs (λ k l. none refl k (omega (arith, l, long))))
no_faults order xs n (suc f) long none some =
    let at = some (omega arith) in
    let many : nat_eq (suc f) 0 ≡ false = grind arith in
    many ∙ sym (each_next-false order xs at.0 at.1 at.2)

-- two neighbours, if all are in the order
pub each_next-at : (order : ℕ → ℕ → Bool) (xs : List ℕ) (k : ℕ) → suc k < length xs → each_next order xs ≡ true → pair_at order xs k ≡ true
each_next-at order [] k l h = absurd (omega arith)
each_next-at order (x ∷ []) k l h = absurd (omega arith)
each_next-at order (x ∷ y ∷ xs) zero l h = (and_parts _ _ h).0
each_next-at order (x ∷ y ∷ xs) (suc k) l h = each_next-at order (y ∷ xs) k (omega arith) (and_parts (order x y) _ h).1

pub rising : (xs : List ℕ) → each_next nat_lt xs ≡ true → IsStrictlyIncreasing xs
rising xs h k l = rw (add-one k) (ltb-true _ _ (each_next-at nat_lt xs k (omega arith) h))

pub ascending : (xs : List ℕ) → each_next nat_le xs ≡ true → IsNonDecreasing xs
ascending xs h = IsNonDecreasingBy-from_all_adjacent (λ x. x) xs (λ k d l.
    rw (add-one k, get_or_default xs k d 0 (omega arith), get_or_default xs (suc k) d 0 (omega arith))
    (grind (arith, leb-true, each_next-at)))

-- what the tests of a caller answer
pub ascending_is : (xs : List ℕ) (r : Bool) → r ≡ each_next nat_le xs → IsTrue r ↔ IsNonDecreasing xs
ascending_is xs r e = grind (arith, ascending, each_next-true, nat_le, le-leb)

pub rising_is : (xs : List ℕ) (r : Bool) → r ≡ each_next nat_lt xs → IsTrue r ↔ IsStrictlyIncreasing xs
rising_is xs r e = grind (arith, rising, each_next-true, nat_lt, lt-ltb, add-one)

pub below_is : (xs : List ℕ) (limit : ℕ) (r : Bool) → r ≡ list_all (λ n. nat_lt n limit) xs → IsTrue r ↔ All (λ n. n < limit) xs
below_is xs limit r e = grind (arith, ltb-true, AllPass-from_list_all, list_all-from_AllPass, lt-ltb)
