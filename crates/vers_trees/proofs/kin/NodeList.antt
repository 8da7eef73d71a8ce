-- The nodes of a forest are the positions of the ones that it is written down with.
use Rattle.vers_trees.proofs.Names.{◌≡◌, ℕ, zero, suc, ◌+◌, ◌<◌, ◌≤◌, Bool, true, false, ◌&&◌, List, [], ◌∷◌, map, length, get_or, Option, Some, None, MatchOption, eqb, ltb, arith, subst, sym, refl, ap, ◌∙◌, find, filter, slice_get, Decides, option_eq, Contains, range_with_len, last_or, Decides-eqb, Decides-ltb, Decides-and, is_bit, positions, Forest, IsBalanced, forest_of, none, tree, text, moved, pairs, nodes, IsNode, closing, first_of, next_of, previous_of, map-append, ints, ⊎_elim, cases_lt, get_or_past}
use Rattle.vers_trees.proofs.walks.Lists.{opening_moved, positions-tree}
use Rattle.vers_trees.proofs.searches.Searches.{find_is, last_is}
pub use Rattle.vers_trees.proofs.grammar.Grammar.{text-forest_of}
use Rattle.vers_trees.proofs.grammar.Paired.{Closes, Paired, paired_closes, closes_paired, open_is_paired, close_is_paired, closes_rises}
use Rattle.vers_trees.proofs.grammar.Pairs.{contains_first, contains_later, contains_map_cases, contains_from_paired, paired_from_contains}

-- the nodes are the positions of ones, so they ascend
pub nodes_are_ones : (F : Forest) → nodes F ≡ positions true (text F)
unfolding positions
nodes_are_ones none = refl
nodes_are_ones (tree X Y) =
    let n = length (text X) + 2 in let e : length (text X) + 2 ≡ 1 + length (text X) + 1 = omega arith in
    rw (map-append (λ (p : ℕ × ℕ). p.0) (map (moved 1) (pairs X)) (map (moved n) (pairs Y)), opening_moved 1 (pairs X), opening_moved n (pairs Y), nodes_are_ones X, nodes_are_ones Y, e) (sym (positions-tree true (text X) (text Y)))

-- ---- where a node of a balanced list closes
find_only : {X : Type 0} → (test : X → Bool) (xs : List X) (y : X) → Contains xs y → test y ≡ true → ((x : X) → Contains xs x → test x ≡ true → x ≡ y) → find test xs ≡ Some y
find_only {X = X} test [] y c t h = grind arith
find_only {X = X} test (x ∷ xs) y (zero, l, e) t h = grind arith
find_only {X = X} test (x ∷ xs) y (suc k, l, e) t h = grind (arith, h x (contains_first x xs), find_only test xs y (k, omega arith, e) t (λ z d g. h z (contains_later x xs z d) g))

pub closing_is : (F : Forest) (v c : ℕ) → Paired F v c → closing F v ≡ c
unfolding closing
closing_is F v c p =
    let f = find_only (λ (q : ℕ × ℕ). eqb q.0 v) (pairs F) (v, c) (contains_from_paired F v c p) ((Decides-eqb v v).1 refl) (λ q d t. let m = paired_closes F q.0 q.1 (paired_from_contains F q d) in grind (arith, paired_closes)) in
    grind (arith, ints)

pub closes_here : (l : List Bool) (b : IsBalanced l) (v c : ℕ) → Paired (forest_of l) v c → Closes l v c
closes_here l b v c p = rw (text-forest_of l b) at (paired_closes (forest_of l) v c p)

pub paired_here : (l : List Bool) (b : IsBalanced l) (v c : ℕ) → Closes l v c → Paired (forest_of l) v c
paired_here l b v c p = closes_paired (forest_of l) v c (rw (text-forest_of l b) p)

pub record HasPair (l : List Bool) (v : ℕ) : Type 0 where
  pub is_pair : Contains (pairs (forest_of l)) (v, closing (forest_of l) v)
  pub closes : Closes l v (closing (forest_of l) v)

pub has_pair : (l : List Bool) (b : IsBalanced l) (v c : ℕ) → Paired (forest_of l) v c → HasPair l v
has_pair l b v c p = grind (arith, ints, closing_is, contains_from_paired, closes_here)

-- a one opens a node, a zero closes one, and each node opens at a one
pub one_pair : (l : List Bool) (b : IsBalanced l) (v : ℕ) → v < length l → get_or l v false ≡ true → HasPair l v
one_pair l b v i o = let p = open_is_paired (forest_of l) v false (rw (text-forest_of l b) i) (rw (text-forest_of l b) o) in has_pair l b v p.0 p.1

-- past the end no bit is a one
pub bit_inside : (l : List Bool) (v : ℕ) → get_or l v false ≡ true → v < length l
bit_inside l v e = ⊎_elim (λ (h : v < length l). h) (λ (h : length l ≤ v). let p = get_or_past l v false h in absurd (cc)) (cases_lt v (length l))

pub zero_pair : (l : List Bool) (b : IsBalanced l) (c : ℕ) → c < length l → get_or l c false ≡ false → (v : ℕ) × HasPair l v × (closing (forest_of l) v ≡ c) × Closes l v c
zero_pair l b c i o =
    let p = close_is_paired (forest_of l) c false (rw (text-forest_of l b) i) (rw (text-forest_of l b) o) in
    (p.0, has_pair l b p.0 c p.1, closing_is (forest_of l) p.0 c p.1, closes_here l b p.0 c p.1)

pub node_pair : (l : List Bool) (b : IsBalanced l) (v : ℕ) → IsNode (forest_of l) v → HasPair l v
node_pair l b v n =
    let m = contains_map_cases (λ (q : ℕ × ℕ). q.0) (pairs (forest_of l)) (0, 0) v n in
    subst (HasPair l) m.2 (has_pair l b m.0.0 m.0.1 (paired_from_contains (forest_of l) m.0 m.1))

pub opens : (l : List Bool) (v : ℕ) → HasPair l v → get_or l v false ≡ true
opens l v h = closes_rises l v (closing (forest_of l) v) false h.closes

pub inside : (l : List Bool) (v : ℕ) → HasPair l v → v < length l
inside l v h = omega arith

pub nodes_by : (l : List Bool) → IsBalanced l → nodes (forest_of l) ≡ positions true l
nodes_by l b = nodes_are_ones (forest_of l) ∙ ap (positions true) (text-forest_of l b)

-- ---- the first and the last node that pass a test
pub filter_filtered : {X : Type 0} → (p t : X → Bool) (xs : List X) → filter t (filter p xs) ≡ filter (λ x. p x && t x) xs
filter_filtered {X = X} p t [] = refl
filter_filtered {X = X} p t (x ∷ xs) = grind (arith, filter_filtered p t xs)

pub first_filtered : {X : Type 0} → (t : X → Bool) (xs : List X) → slice_get (filter t xs) 0 ≡ find t xs
first_filtered {X = X} t [] = refl
first_filtered {X = X} t (x ∷ xs) = grind (arith, first_filtered t xs)

-- so what is found is the same where the same pass
find_by : (t u : ℕ → Bool) (xs ys : List ℕ) → filter t xs ≡ filter u ys → find t xs ≡ find u ys
find_by t u xs ys e = sym (first_filtered t xs) ∙ ap (λ (zs : List ℕ). slice_get zs 0) e ∙ first_filtered u ys

abbrev node_test : List Bool → (ℕ → Bool) → ℕ → Bool
node_test l t v = get_or l v false && t v

at_one : (l : List Bool) (t : ℕ → Bool) (P : ℕ → Type 0) → ((w : ℕ) → Decides (t w) (P w)) → (w : ℕ) → Decides (node_test l t w) ((get_or l w false ≡ true) × P w)
at_one l t P d w = Decides-and (get_or l w false) (t w) (λ e. e, λ e. e) (d w)

nodes_filtered : (l : List Bool) → IsBalanced l → (t : ℕ → Bool) → filter t (nodes (forest_of l)) ≡ filter (node_test l t) (range_with_len 0 (length l))
unfolding positions
nodes_filtered l b t = ap (filter t) (nodes_by l b) ∙ filter_filtered (λ p. is_bit true (get_or l p false)) t (range_with_len 0 (length l))

-- the first, and the last, of the nodes that have P, or none
abbrev pub IsFirstNode : List Bool → (ℕ → Type 0) → Option ℕ → Type 0
IsFirstNode l P o = MatchOption o ((w : ℕ) → HasPair l w → P w → ⊥) (λ v. HasPair l v × P v × ((w : ℕ) → w < v → HasPair l w → P w → ⊥))

abbrev pub IsLastNode : List Bool → (ℕ → Type 0) → Option ℕ → Type 0
IsLastNode l P o = MatchOption o ((w : ℕ) → HasPair l w → P w → ⊥) (λ v. HasPair l v × P v × ((w : ℕ) → v < w → HasPair l w → P w → ⊥))

-- what a filter by a test that decides P answers
module _ (l : List Bool) (b : IsBalanced l) (t : ℕ → Bool) (P : ℕ → Type 0) (d : (w : ℕ) → Decides (t w) (P w)) where
  pub first_node : (o : Option ℕ) → IsFirstNode l P o → find t (nodes (forest_of l)) ≡ o
  first_node o n = find_by t (node_test l t) (nodes (forest_of l)) (range_with_len 0 (length l)) (nodes_filtered l b t) ∙ find_is (node_test l t) _ (at_one l t P d) 0 (length l) o (grind (arith, one_pair, opens))

  pub last_node : (o : Option ℕ) → IsLastNode l P o → last_or None (filter t (nodes (forest_of l))) ≡ o
  last_node o n = ap (last_or None) (nodes_filtered l b t) ∙ last_is (node_test l t) _ (at_one l t P d) (length l) o (grind (arith, one_pair, opens, inside))

  pub first_in : (o : Option ℕ) → IsFirstNode l P o → first_of (filter t (nodes (forest_of l))) ≡ o
  first_in o n = first_filtered t (nodes (forest_of l)) ∙ first_node o n

-- the nearest of them after u, and before u
module _ (l : List Bool) (b : IsBalanced l) (t : ℕ → Bool) (P : ℕ → Type 0) (d : (w : ℕ) → Decides (t w) (P w)) (u : ℕ) where
  pub next_in : (o : Option ℕ) → IsFirstNode l (λ w. P w × (u < w)) o → next_of (filter t (nodes (forest_of l))) u ≡ o
  next_in o n = find_by (λ w. ltb u w) (λ w. t w && ltb u w) (filter t (nodes (forest_of l))) (nodes (forest_of l)) (filter_filtered t (λ w. ltb u w) (nodes (forest_of l))) ∙ first_node l b _ _ (λ w. Decides-and (t w) (ltb u w) (d w) (Decides-ltb u w)) o n

  pub previous_in : (o : Option ℕ) → IsLastNode l (λ w. P w × (w < u)) o → previous_of (filter t (nodes (forest_of l))) u ≡ o
  previous_in o n = ap (last_or None) (filter_filtered t (λ w. ltb w u) (nodes (forest_of l))) ∙ last_node l b _ _ (λ w. Decides-and (t w) (ltb w u) (d w) (Decides-ltb w u)) o n

-- whether two numbers or none are the same
pub option_decides : (a b : Option ℕ) → Decides (option_eq eqb a b) (a ≡ b)
option_decides a b = grind (arith, Decides-eqb)
