-- Neighbours of a number in a list, as elements by size.
use Rattle.vers_wavelet.proofs.Names.{◌≡◌, ℕ, zero, suc, ◌+◌, ◌-◌, ◌<◌, ◌≤◌, Bool, true, false, false≢true, cases_Bool, cond, ltb, leb, List, [], ◌∷◌, length, drop, get_or, refl, arith, inl, inr, Contains, Any, slice_range, count_by, ap, cases_lt, le-leb, lt-leb, lt-ltb, le-ltb, leb-true, ltb-true, ltb-false, length-take, length-drop, sum_by-cons, sum_by-le-sum_by, any_default, IsKth, IsPredecessor, IsSuccessor}

-- a test as a number
abbrev pub one : Bool → ℕ
one t = cond t 1 0

pub count_cons : (q : ℕ → Bool) (x : ℕ) (xs : List ℕ) → count_by q (x ∷ xs) ≡ one (q x) + count_by q xs
count_cons q x xs = sum_by-cons (λ y. cond (q y) 1 0) x xs

one_up : (b c : Bool) → (b ≡ true → c ≡ true) → one b ≤ one c
one_up b c h = grind arith

count-le : (p q : ℕ → Bool) (xs : List ℕ) → ((y : ℕ) → p y ≡ true → q y ≡ true) → count_by p xs ≤ count_by q xs
count-le p q xs up = sum_by-le-sum_by (λ y. cond (p y) 1 0) (λ y. cond (q y) 1 0) xs (λ y. one_up (p y) (q y) (up y))

-- where more elements pass one test than another, one passes that alone
found_between : (p q : ℕ → Bool) (xs : List ℕ) → count_by p xs < count_by q xs
    → (k : ℕ) × (k < length xs) × (p (get_or xs k 0) ≡ false) × (q (get_or xs k 0) ≡ true)
found_between p q [] h = absurd (omega arith)
found_between p q (x ∷ xs) h =
    elim (cases_lt (one (p x)) (one (q x))) [
      | inl here ↦ (zero, omega arith, grind (arith, here), grind (arith, here))
      | inr fine ↦
          let r = found_between p q xs (omega (arith, count_cons p x xs, count_cons q x xs)) in
          (suc r.0, omega (arith, r.1), r.2, r.3)
    ]

-- a test that is passed where another is passes more elements, if it passes one that the other does not
less_between : (p q : ℕ → Bool) → ((y : ℕ) → p y ≡ true → q y ≡ true) → (xs : List ℕ) (k : ℕ) → k < length xs → p (get_or xs k 0) ≡ false
    → q (get_or xs k 0) ≡ true
    → count_by p xs < count_by q xs
less_between p q up [] k h off on = absurd (omega arith)
less_between p q up (x ∷ xs) zero h off on = omega (arith, count_cons p x xs, count_cons q x xs, count-le p q xs up, ap one off, ap one on)
less_between p q up (x ∷ xs) (suc k) h off on =
    omega (arith, count_cons p x xs, count_cons q x xs, one_up (p x) (q x) (up x), less_between p q up xs k (omega arith) off on)

pub not_lt : {a b : ℕ} → (a < b → ⊥) → b ≤ a
not_lt none = omega arith

kth_element : (xs : List ℕ) (i x : ℕ) → IsKth xs i x → Contains xs x
kth_element xs i x kth = grind (arith, found_between, any_default, ltb-false, leb-true)

-- of n elements not above s the last by size
pub predecessor_is : (xs : List ℕ) (n s x : ℕ) → n ≡ count_by (λ y. leb y s) xs → 0 < n → IsKth xs (n - 1) x → IsPredecessor xs s x
predecessor_is xs n s x e some kth = record {
  element = kth_element xs (n - 1) x kth;
  within = not_lt (λ above. omega (arith, kth.less, count-le (λ y. leb y s) (λ y. ltb y x) xs (λ y t. lt-ltb y x (omega (arith, leb-true y s t)))));
  greatest = λ k d h small. not_lt (λ between.
      let at = any_default xs k d 0 h in
      let fewer = less_between (λ y. leb y x) (λ y. leb y s) (λ y t. le-leb y s (omega (arith, leb-true y x t))) xs k h
      (lt-leb _ x (omega (arith, at))) (le-leb _ s (omega (arith, at))) in
      omega (arith, kth.more, fewer));
}

-- of n elements below s the next by size
pub successor_is : (xs : List ℕ) (n s x : ℕ) → n ≡ count_by (λ y. ltb y s) xs → IsKth xs n x → IsSuccessor xs s x
successor_is xs n s x e kth = record {
  element = kth_element xs n x kth;
  within = not_lt (λ low. omega (arith, kth.more, count-le (λ y. leb y x) (λ y. ltb y s) xs (λ y t. lt-ltb y s (omega (arith, leb-true y x t)))));
  least = λ k d h large. not_lt (λ between.
      let at = any_default xs k d 0 h in
      let fewer = less_between (λ y. ltb y s) (λ y. ltb y x) (λ y t. lt-ltb y x (omega (arith, ltb-true y s t))) xs k h
      (le-ltb _ s (omega (arith, at))) (lt-ltb _ x (omega (arith, at))) in
      omega (arith, kth.less, fewer));
}

-- where some elements are s, of `below` below it and `equal` that are it, it is the neighbour on both sides
pub kth_same : (xs : List ℕ) (below equal s : ℕ) → below ≡ count_by (λ y. ltb y s) xs → below + equal ≡ count_by (λ y. leb y s) xs → 0 < equal → (i : ℕ) → below ≤ i → i < below + equal → IsKth xs i s
kth_same xs below equal s low high some i from to = record { less = omega (arith, low); more = omega (arith, high) }

-- a test that all pass, or none
all_count : (b : Bool) (xs : List ℕ) → count_by (λ y. b) xs ≡ cond b (length xs) 0
all_count b [] = grind (arith, cases_Bool b)
all_count b (x ∷ xs) = grind (arith, cases_Bool b, count_cons (λ y. b) x xs, all_count b xs)

-- whether any element is not above s, by the count of those
pub any_not_above : (xs : List ℕ) (n s : ℕ) → n ≡ count_by (λ y. leb y s) xs → 0 < n → Any (λ y. y ≤ s) xs
any_not_above xs n s e some =
    let r = found_between (λ y. false) (λ y. leb y s) xs (omega (arith, all_count false xs)) in
    (r.0, get_or xs r.0 0, r.1, any_default xs r.0 _ 0 r.1, leb-true _ s r.3)

pub some_not_above : (xs : List ℕ) (n s : ℕ) → n ≡ count_by (λ y. leb y s) xs → Any (λ y. y ≤ s) xs → 0 < n
some_not_above xs n s e any =
    let at : get_or xs any.0 0 ≤ s = omega (arith, any_default xs any.0 any.1 0 any.2, any.3, any.4) in
    omega (arith, all_count false xs, less_between (λ y. false) (λ y. leb y s) (λ y t. absurd (false≢true t)) xs any.0 any.2 refl (le-leb _ s at))

-- whether any element is not below s, by the count of those that are
pub any_not_below : (xs : List ℕ) (n s : ℕ) → n ≡ count_by (λ y. ltb y s) xs → n < length xs → Any (λ y. s ≤ y) xs
any_not_below xs n s e some =
    let r = found_between (λ y. ltb y s) (λ y. true) xs (omega (arith, all_count true xs)) in
    (r.0, get_or xs r.0 0, r.1, any_default xs r.0 _ 0 r.1, ltb-false _ s r.2)

pub some_not_below : (xs : List ℕ) (n s : ℕ) → n ≡ count_by (λ y. ltb y s) xs → Any (λ y. s ≤ y) xs → n < length xs
some_not_below xs n s e any =
    let at : s ≤ get_or xs any.0 0 = omega (arith, any_default xs any.0 any.1 0 any.2, any.3, any.4) in
    omega (arith, all_count true xs, less_between (λ y. ltb y s) (λ y. true) (λ y t. refl) xs any.0 any.2 (le-ltb _ s at) refl)

-- a range that ends within the list has as many elements as positions
pub part_length : (xs : List ℕ) (a b : ℕ) → b ≤ length xs → length (slice_range xs a b) ≡ b - a
part_length xs a b within = omega (arith, length-take (b - a) (drop a xs), length-drop a xs)

pub never : {X : Type 0} → false ≡ true → X
never {X} e = cc
