-- Numbers that ascend, and those of a list that pass a test.
use Rattle.vers_trees.proofs.Names.{◌≡◌, ℕ, zero, suc, ◌+◌, ◌-◌, ◌<◌, ◌≤◌, Bool, true, List, [], ◌∷◌, length, get_or, ltb, Option, None, Some, arith, subst, sym, refl, ap, ◌∙◌, slice_get, find, filter, Contains, last_or, range_with_len, get_or_from_slice_get, slice_get_within, lt-ltb, le-ltb, cond_both, All-get_or, All-filter, All-contains_itself, filter_passes, find_is, none_passing, last_passing_is, positions, Forest, text, nodes, last_of}
use Rattle.vers_trees.proofs.grammar.Pairs.{contains_first, contains_later}
use Rattle.vers_trees.proofs.kin.NodeList.{nodes_are_ones}

-- ---- elements that ascend, the first of them from n on
abbrev pub AscendsFrom : ℕ → List ℕ → Type 0
AscendsFrom n [] = Unit {0}
AscendsFrom n (x ∷ xs) = (n ≤ x) × AscendsFrom (x + 1) xs

ascends_lower : (m n : ℕ) (xs : List ℕ) → m ≤ n → AscendsFrom n xs → AscendsFrom m xs
ascends_lower m n [] h a = tt
ascends_lower m n (x ∷ xs) h a = (omega arith, a.1)

range_ascends : (a n : ℕ) → AscendsFrom a (range_with_len a n)
range_ascends a zero = tt
range_ascends a (suc n) = (omega arith, range_ascends (a + 1) n)

pub filter_ascends : (p : ℕ → Bool) (n : ℕ) (xs : List ℕ) → AscendsFrom n xs → AscendsFrom n (filter p xs)
filter_ascends p n [] a = tt
filter_ascends p n (x ∷ xs) a = grind (arith, ascends_lower, filter_ascends p (x + 1) xs a.1)

-- they rise by one at least from each to the next
element_from : (n i : ℕ) (xs : List ℕ) → AscendsFrom n xs → i < length xs → n + i ≤ get_or xs i 0
element_from n i [] a h = absurd (omega arith)
element_from n zero (x ∷ xs) a h = omega arith
element_from n (suc i) (x ∷ xs) a h = omega (arith, element_from (x + 1) i xs a.1 (omega arith))

in_order : (n i j : ℕ) (xs : List ℕ) → AscendsFrom n xs → i ≤ j → j < length xs → get_or xs i 0 + j ≤ get_or xs j 0 + i
in_order n i j [] a h k = absurd (omega arith)
in_order n zero j (x ∷ xs) a h k = omega (arith, element_from x j (x ∷ xs) (omega arith, a.1) k)
in_order n (suc i) j (x ∷ xs) a h k = grind (arith, in_order (x + 1) i (j - 1) xs a.1)

pub next_element : (n i v : ℕ) (xs : List ℕ) → AscendsFrom n xs → slice_get xs i ≡ Some v → find (λ w. ltb v w) xs ≡ slice_get xs (suc i)
next_element n i v xs a e =
    let m = slice_get_within xs i v e in let g = get_or_from_slice_get xs i v 0 e in
    find_is (λ w. ltb v w) xs (suc i) m (λ j h. grind (arith, le-ltb, in_order n j i xs a)) (λ h. grind (arith, lt-ltb, in_order n i (suc i) xs a))

pub element_before : (n i v : ℕ) (xs : List ℕ) → AscendsFrom n xs → slice_get xs (suc i) ≡ Some v → last_or None (filter (λ w. ltb w v) xs) ≡ slice_get xs i
element_before n i v xs a e =
    let m = slice_get_within xs (suc i) v e in let g = get_or_from_slice_get xs (suc i) v 0 e in
    last_passing_is None (λ w. ltb w v) xs i (omega arith) (λ j h. grind (arith, lt-ltb, in_order n j (suc i) xs a)) (λ j h k. grind (arith, le-ltb, in_order n (suc i) j xs a))

pub first_element_before : (n v : ℕ) (xs : List ℕ) → AscendsFrom n xs → slice_get xs 0 ≡ Some v → last_or None (filter (λ w. ltb w v) xs) ≡ None
first_element_before n v xs a e = none_passing None (λ w. ltb w v) xs (λ j h. grind (arith, le-ltb, in_order n 0 j xs a, get_or_from_slice_get xs 0 v 0 e))

last_element : (o : Option ℕ) (x : ℕ) (xs : List ℕ) → last_or o (x ∷ xs) ≡ slice_get (x ∷ xs) (length xs)
last_element o x [] = refl
last_element o x (y ∷ ys) = last_element (Some x) y ys

pub last_by_number : (xs : List ℕ) → last_of xs ≡ slice_get xs (length xs - 1)
last_by_number [] = refl
last_by_number (x ∷ xs) = last_element None x xs ∙ ap (slice_get (x ∷ xs)) (let e : length xs ≡ suc (length xs) - 1 = omega arith in e)

-- ---- elements that pass a test
pub element_passes : (p : ℕ → Bool) (xs : List ℕ) (i v : ℕ) → slice_get (filter p xs) i ≡ Some v → Contains xs v × (p v ≡ true)
element_passes p xs i v e =
    let m = slice_get_within (filter p xs) i v e in let g = get_or_from_slice_get (filter p xs) i v 0 e in
    (subst (Contains xs) g (All-get_or (Contains xs) (filter p xs) i 0 m (All-filter p (Contains xs) xs (All-contains_itself xs))), subst (λ (k : ℕ). p k ≡ true) g (All-get_or (λ x. p x ≡ true) (filter p xs) i 0 m (filter_passes p xs)))

pub passing_holds : (p : ℕ → Bool) (xs : List ℕ) (v : ℕ) → Contains xs v → p v ≡ true → Contains (filter p xs) v
passing_holds p [] v (k, l, e) t = absurd (omega arith)
passing_holds p (x ∷ xs) v (zero, l, e) t = grind (arith, contains_first)
passing_holds p (x ∷ xs) v (suc k, l, e) t =
    let c = passing_holds p xs v (k, omega arith, e) t in
    cond_both (p x) (x ∷ filter p xs) (filter p xs) (λ (ys : List ℕ). Contains ys v) (λ e. contains_later x (filter p xs) v c) (λ e. c)

-- ---- levels
pub positions_ascend : (bit : Bool) (l : List Bool) → AscendsFrom 0 (positions bit l)
unfolding positions
positions_ascend bit l = filter_ascends _ 0 (range_with_len 0 (length l)) (range_ascends 0 (length l))

pub nodes_ascend : (F : Forest) → AscendsFrom 0 (nodes F)
nodes_ascend F = subst (AscendsFrom 0) (sym (nodes_are_ones F)) (positions_ascend true (text F))
