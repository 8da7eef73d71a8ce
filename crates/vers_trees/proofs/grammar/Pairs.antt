-- The list of a forest's pairs has exactly the positions that open and close a tree.
use Rattle.vers_trees.proofs.Names.{◌≡◌, ℕ, suc, ◌+◌, ◌<◌, ◌⊎◌, inl, inr, List, ◌∷◌, ◌++◌, map, length, get_or, arith, ⊎_elim, subst, sym, refl, ap, ◌∙◌, ◌≤◌, Bool, false, ◌&&◌, cond, [], ltb, count_by, pos, Contains, get_or-map, length-map, Contains-get_or, Contains-append_left, Contains-append_right, Contains-append_cases, Forest, none, tree, text, moved, pairs, ints, nat_tests, lt-ltb, le-ltb, and_from, and_left, and_right, sum_by-cons, sum_by-append, excess, rules}
use Rattle.vers_trees.proofs.grammar.Paired.{Paired, paired_closes, excess_in_first, excess_in_rest}
use Rattle.vers_trees.proofs.grammar.Excess.{excess-zero}

pub contains_first : {X : Type 0} → (x : X) (xs : List X) → Contains (x ∷ xs) x
contains_first x xs = (0, omega arith, refl)

pub contains_later : {X : Type 0} → (y : X) (xs : List X) (x : X) → Contains xs x → Contains (y ∷ xs) x
contains_later y xs x c = (suc c.0, omega arith, c.2)

pub contains_map : {X Y : Type 0} → (f : X → Y) (xs : List X) (x : X) → Contains xs x → Contains (map f xs) (f x)
contains_map f xs x c = (c.0, (let l = length-map xs f in omega arith), get_or-map f xs c.0 x (f x) c.1 ∙ ap f c.2)

pub contains_map_cases : {X Y : Type 0} → (f : X → Y) (xs : List X) (d : X) (y : Y) → Contains (map f xs) y → (x : X) × Contains xs x × (f x ≡ y)
contains_map_cases f xs d y c =
    let l = length-map xs f in let i : c.0 < length xs = omega arith in
    (get_or xs c.0 d, Contains-get_or xs c.0 d i, sym (get_or-map f xs c.0 d y i) ∙ c.2)

abbrev pub second : Forest → Forest → List (ℕ × ℕ)
second X Y = map (moved 1) (pairs X) ++ map (moved (length (text X) + 2)) (pairs Y)

-- the list of pairs holds exactly what `Paired` gives
pub contains_from_paired : (F : Forest) (v c : ℕ) → Paired F v c → Contains (pairs F) (v, c)
contains_from_paired none v c p = absurd p
contains_from_paired (tree X Y) v c (inl p) = grind (arith, contains_first)
contains_from_paired (tree X Y) v c (inr (inl p)) =
    let m = contains_map (moved 1) (pairs X) (p.0, p.1) (contains_from_paired X p.0 p.1 p.4) in grind (arith, Contains-append_left, contains_later)
contains_from_paired (tree X Y) v c (inr (inr p)) =
    let m = contains_map (moved (length (text X) + 2)) (pairs Y) (p.0, p.1) (contains_from_paired Y p.0 p.1 p.4) in
    let a = Contains-append_right (map (moved 1) (pairs X)) (map (moved (length (text X) + 2)) (pairs Y)) (length (text X) + 2 + p.0, length (text X) + 2 + p.1) m in
    rw (p.2, p.3) (contains_later (0, length (text X) + 1) (second X Y) (length (text X) + 2 + p.0, length (text X) + 2 + p.1) a)

abbrev pub PairedIn : Forest → ℕ × ℕ → Type 0
PairedIn F q = Paired F q.0 q.1

pub paired_from_contains : (F : Forest) (q : ℕ × ℕ) → Contains (pairs F) q → Paired F q.0 q.1
paired_from_contains none q h = absurd (omega arith)
paired_from_contains (tree X Y) q h = ⊎_elim
    (λ (e : (0, length (text X) + 1) ≡ q). subst (PairedIn (tree X Y)) e (inl (refl, refl)))
    (λ (c : Contains (second X Y) q). ⊎_elim
    (λ (c : Contains (map (moved 1) (pairs X)) q). let m = contains_map_cases (moved 1) (pairs X) (0, 0) q c in subst (PairedIn (tree X Y)) m.2 (inr (inl (m.0.0, m.0.1, omega arith, omega arith, paired_from_contains X m.0 m.1))))
    (λ (c : Contains (map (moved (length (text X) + 2)) (pairs Y)) q). let m = contains_map_cases (moved (length (text X) + 2)) (pairs Y) (0, 0) q c in subst (PairedIn (tree X Y)) m.2 (inr (inr (m.0.0, m.0.1, refl, refl, paired_from_contains Y m.0 m.1))))
    (Contains-append_cases (map (moved 1) (pairs X)) (map (moved (length (text X) + 2)) (pairs Y)) q c))
    (grind arith)

-- ---- how many pairs of a forest are around a pair, by its positions
abbrev pub one_if : Bool → ℕ
one_if b = cond b 1 0

pub count_by-cons : {X : Type 0} → (p : X → Bool) (x : X) (xs : List X) → count_by p (x ∷ xs) ≡ one_if (p x) + count_by p xs
count_by-cons p x xs = sum_by-cons (λ y. one_if (p y)) x xs

pub count_by-append : {X : Type 0} → (p : X → Bool) (xs ys : List X) → count_by p (xs ++ ys) ≡ count_by p xs + count_by p ys
count_by-append p xs ys = sum_by-append (λ y. one_if (p y)) xs ys

pub count_by-map : {X Y : Type 0} → (p : Y → Bool) (f : X → Y) (xs : List X) → count_by p (map f xs) ≡ count_by (λ x. p (f x)) xs
count_by-map p f [] = refl
count_by-map p f (x ∷ xs) = search (rules, count_by-cons, count_by-map p f xs)

-- tests that agree at each element count the same
pub count_agree : {X : Type 0} → (p q : X → Bool) (xs : List X) → ((x : X) → Contains xs x → p x ≡ q x) → count_by p xs ≡ count_by q xs
count_agree p q [] h = refl
count_agree p q (x ∷ xs) h = grind (arith, contains_later, contains_first, count_by-cons, count_agree p q xs (λ y c. h y (contains_later x xs y c)))

pub count_none : {X : Type 0} → (p : X → Bool) (xs : List X) → ((x : X) → Contains xs x → p x ≡ false) → count_by p xs ≡ 0
count_none p [] h = refl
count_none p (x ∷ xs) h = grind (arith, contains_later, contains_first, count_by-cons, count_none p xs (λ y c. h y (contains_later x xs y c)))

-- a count over the pairs of a tree and what follows it
pub count_tree : (p : ℕ × ℕ → Bool) (X Y : Forest) → count_by p (pairs (tree X Y)) ≡ one_if (p (0, length (text X) + 1)) + (count_by (λ q. p (moved 1 q)) (pairs X) + count_by (λ q. p (moved (length (text X) + 2) q)) (pairs Y))
count_tree p X Y = grind (arith, count_by-cons, count_by-append, count_by-map)

-- q has p between its numbers
abbrev pub strictly_contains : ℕ × ℕ → ℕ × ℕ → Bool
strictly_contains q p = ltb q.0 p.0 && ltb p.1 q.1

-- how many pairs, moved right by n, strictly contain the pair (v, c)
abbrev around : ℕ → Forest → ℕ → ℕ → ℕ
around n F v c = count_by (λ q. strictly_contains (moved n q) (v, c)) (pairs F)

around_moved : (n : ℕ) (F : Forest) (x y v c : ℕ) → v ≡ n + x → c ≡ n + y → around n F v c ≡ count_by (λ q. strictly_contains q (x, y)) (pairs F)
around_moved n F x y v c e f = grind (arith, count_agree, nat_tests)

-- none of the pairs that open at or after v, or close at or before c, is around (v, c)
around_none : (n : ℕ) (F : Forest) (v c : ℕ) → (v ≤ n) ⊎ (n + length (text F) ≤ c + 1) → around n F v c ≡ 0
around_none n F v c (inl h) = grind (arith, ints, count_none, and_left, le-ltb)
around_none n F v c (inr h) = count_none (λ q. strictly_contains (moved n q) (v, c)) (pairs F) (λ q i. and_right _ _ (le-ltb c (n + q.1) (let w = (paired_closes F q.0 q.1 (paired_from_contains F q i)).inside in omega arith)))

-- the depth of a node is the excess before it
pub pairs_around : (F : Forest) (v c : ℕ) → Paired F v c → pos (count_by (λ q. strictly_contains q (v, c)) (pairs F)) ≡ excess (text F) v
pairs_around none v c p = absurd p
pairs_around (tree X Y) v c (inl p) =
    let b = around_none 1 X v c (inl (omega arith)) in let d = around_none (length (text X) + 2) Y v c (inl (omega arith)) in
    grind (arith, ints, excess-zero, and_left, le-ltb, count_tree (λ q. strictly_contains q (v, c)) X Y)
pairs_around (tree X Y) v c (inr (inl p)) =
    let k = paired_closes X p.0 p.1 p.4 in let t = count_tree (λ q. strictly_contains q (v, c)) X Y in
    let b = around_moved 1 X p.0 p.1 v c (omega arith) (omega arith) in let d = around_none (length (text X) + 2) Y v c (inl (omega arith)) in
    grind (arith, ints, excess_in_first, and_from, lt-ltb, pairs_around X p.0 p.1 p.4)
pairs_around (tree X Y) v c (inr (inr p)) =
    let b = around_none 1 X v c (inr (omega arith)) in
    grind (arith, ints, around_moved, excess_in_rest, tree, count_tree (λ q. strictly_contains q (v, c)) X Y, pairs_around Y p.0 p.1 p.4)
