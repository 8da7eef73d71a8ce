-- The nodes around a node of a balanced list: its parent, its depth, how many precede it, and the positions of its nearest children and siblings.
use Rattle.vers_trees.proofs.Names.{nat_tests, ◌≡◌, ℕ, zero, suc, ◌+◌, ◌-◌, ◌<◌, ◌≤◌, ◌<ℤ◌, Bool, true, false, ◌&&◌, List, [], ◌∷◌, get_or, ltb, leb, count_by, pos, negsuc, neg_ℤ, Some, arith, ⊎_elim, sym, refl, ap, ◌∙◌, Decides, lt-ltb, le-ltb, le-leb, Decides-ltb, Decides-and, leb_tells, length-filter, count, positions, excess, last_rise_before, Forest, pairs, IsBalanced, forest_of, nodes, closing, is_ancestor, is_proper_ancestor, depth, parent, node_index, IsLastRiseBefore, ints, rules, common_steps, cond, length, Option, None, filter, Contains, last_or, Decides-like, same_from_decides, eq-or-lt_of_le, nodes_under, children, siblings, first_of, last_of, next_of, previous_of, get_or_default, ◌↔◌, IsTrue, is_some, not, count_both, first_rise_after, IsNode, ◌≢◌, slice_get, option_map, ◌==◌, slice_get-get_or, select, length-positions, none, tree, text, ne_eqb, slice_get_within, false_from_ne_true}
use Rattle.vers_trees.proofs.walks.Lists.{positions-cons}
use Rattle.vers_trees.proofs.searches.Searches.{before_some, before_none, by_answer, before_is, after_is}
use Rattle.vers_trees.proofs.grammar.Excess.{above_since, excess-is_walk, open_from_rise, excess_after_open, excess_after_close}
use Rattle.vers_trees.proofs.grammar.Grammar.{text-forest_of}
use Rattle.vers_trees.proofs.grammar.Paired.{closes_rises, Closes, closes_falls}
use Rattle.vers_trees.proofs.grammar.Pairs.{paired_from_contains, count_by-cons, count_by-append, count_by-map, count_agree, count_none, strictly_contains, pairs_around, contains_first, contains_later}
use Rattle.vers_trees.proofs.kin.Partners.{nested, IsAbove, one_before, parent_is_nearest, no_parent, before_from_closes, opens_around, first_child_above, last_child_closes, last_child_above, after_from_closes}
pub use Rattle.vers_trees.proofs.kin.NodeList.{HasPair, one_pair, bit_inside, paired_here, closing_is, nodes_by, opens, inside, zero_pair, node_pair, IsFirstNode, first_in, last_node, next_in, previous_in, option_decides}

-- ---- what a test determines
pub Decides-leb : (a b : ℕ) → Decides (leb a b) (a ≤ b)
Decides-leb a b = (λ e. ⊎_elim (λ (h : (leb a b ≡ true) × (a ≤ b)). h.1) (λ (h : (leb a b ≡ false) × (b < a)). absurd (cc)) (leb_tells a b), λ h. le-leb a b h)

pub proper_decides : (F : Forest) (a v : ℕ) → Decides (is_proper_ancestor F a v) ((a < v) × (closing F v < closing F a))
unfolding is_proper_ancestor
proper_decides F a v = Decides-and (ltb a v) (ltb (closing F v) (closing F a)) (Decides-ltb a v) (Decides-ltb (closing F v) (closing F a))

pub ancestor_decides : (F : Forest) (a v : ℕ) → Decides (is_ancestor F a v) ((a ≤ v) × (closing F v ≤ closing F a))
unfolding is_ancestor
ancestor_decides F a v = Decides-and (leb a v) (leb (closing F v) (closing F a)) (Decides-leb a v) (Decides-leb (closing F v) (closing F a))

-- ---- the parent
-- what a search backwards from a node finds is above it
pub above_from_before : (l : List Bool) (b : IsBalanced l) (v t a : ℕ) → 0 < t → get_or l v false ≡ true → IsLastRiseBefore l v (neg_ℤ (pos t)) a → IsAbove l v t a
above_from_before l b v t a h o p =
    let high : (j : ℕ) → a < j → j ≤ v → excess l a <ℤ excess l j =
    λ j x y. above_since (excess l) (excess-is_walk l) (excess l a) j v y (omega (arith, ints)) (λ k g m e. grind (arith, ints)) in
    grind (arith, ints, one_before, one_pair l b a (omega arith) (open_from_rise l a false (omega arith) (high (a + 1) (omega arith) (omega arith))))

-- what is above v is around it
pub above_is_around : (l : List Bool) (b : IsBalanced l) (v t a : ℕ) → HasPair l v → IsAbove l v t a → (a < v) × (closing (forest_of l) v < closing (forest_of l) a) × HasPair l a
above_is_around l b v t a h p = grind (arith, ints, one_pair, closes_rises, closing_is (forest_of l) a p.close (paired_here l b a p.close p.pair), p.before)

pub above_parent : (l : List Bool) (b : IsBalanced l) (v p : ℕ) → HasPair l v → IsAbove l v 1 p → parent (forest_of l) v ≡ Some p
unfolding parent
above_parent l b v p h a = last_node l b _ _ (λ w. proper_decides (forest_of l) w v) (Some p) (grind (arith, above_is_around l b v 1 p h a, parent_is_nearest))

pub parent_is_search : (l : List Bool) (b : IsBalanced l) (v : ℕ) → HasPair l v → last_rise_before l v (negsuc 0) ≡ parent (forest_of l) v
unfolding parent
parent_is_search l b v h = by_answer (λ o. o ≡ parent (forest_of l) v) (last_rise_before l v (negsuc 0))
    (λ e. sym (last_node l b _ _ (λ w. proper_decides (forest_of l) w v) None (λ w k g. no_parent l v w (closing (forest_of l) w) (search (rules, before_none, inside)) k.closes g.0 (omega arith))))
    (λ p e. sym (above_parent l b v p h (above_from_before l b v 1 p (omega arith) (opens l v h) (before_some l v (negsuc 0) p e))))

pub parent_above : (l : List Bool) (b : IsBalanced l) (v p : ℕ) → HasPair l v → parent (forest_of l) v ≡ Some p → IsAbove l v 1 p
parent_above l b v p h e = search (rules, above_from_before, closes_rises, before_some, parent_is_search)

-- the parent is around, and each node around v is at or before it
pub parent_around : (l : List Bool) (b : IsBalanced l) (v p : ℕ) → HasPair l v → parent (forest_of l) v ≡ Some p → (p < v) × (closing (forest_of l) v < closing (forest_of l) p) × HasPair l p
parent_around l b v p h e = above_is_around l b v 1 p h (parent_above l b v p h e)

pub has_parent : (l : List Bool) (b : IsBalanced l) (v q : ℕ) → HasPair l v → HasPair l q → q < v → closing (forest_of l) v < closing (forest_of l) q → (p : ℕ) × (parent (forest_of l) v ≡ Some p) × (q ≤ p)
has_parent l b v q h k x y =
    by_answer (λ o. (p : ℕ) × (parent (forest_of l) v ≡ Some p) × (q ≤ p)) (last_rise_before l v (negsuc 0))
    (λ e. absurd (no_parent l v q (closing (forest_of l) q) (before_none l v (negsuc 0) (omega arith) e) k.closes x (omega arith)))
    (λ p e. (p, sym (parent_is_search l b v h) ∙ e, grind (arith, ints, parent_is_nearest l v p q (closing (forest_of l) q), parent_above l b v p h, parent_is_search l b v h, k.closes)))

-- ---- how many
pub depth_is_excess : (l : List Bool) (b : IsBalanced l) (v : ℕ) → HasPair l v → pos (depth (forest_of l) v) ≡ excess l v
unfolding depth is_proper_ancestor
depth_is_excess l b v h =
    let F = forest_of l in let a = length-filter (λ w. is_proper_ancestor F w v) (nodes F) in
    let m = count_by-map (λ w. is_proper_ancestor F w v) (λ (q : ℕ × ℕ). q.0) (pairs F) in
    let c = count_agree (λ (q : ℕ × ℕ). is_proper_ancestor F q.0 v) (λ (q : ℕ × ℕ). strictly_contains q (v, closing F v)) (pairs F) (λ q i. ap (λ (k : ℕ). ltb q.0 v && ltb (closing F v) k) (closing_is F q.0 q.1 (paired_from_contains F q i))) in
    ap pos (a ∙ m ∙ c) ∙ pairs_around F v (closing F v) (paired_here l b v (closing F v) h.closes) ∙ ap (λ (k : List Bool). excess k v) (text-forest_of l b)

-- of the positions of a bit, those before position v
pub below_counted : (bit : Bool) (l : List Bool) (v : ℕ) → count_by (λ w. ltb w v) (positions bit l) ≡ count bit l v
unfolding count positions
below_counted bit l zero = grind (arith, count_none, le-ltb)
below_counted bit [] (suc v) = refl
below_counted bit (b ∷ l) (suc v) = grind (arith, common_steps, count_by-map, count_agree, nat_tests, count_by-cons, positions-cons, count_by-append, lt-ltb, below_counted bit l v)

pub index_is_rank : (l : List Bool) → IsBalanced l → (v : ℕ) → node_index (forest_of l) v ≡ count true l v
unfolding node_index
index_is_rank l b v = ap (λ (xs : List ℕ). count_by (λ w. ltb w v) xs) (nodes_by l b) ∙ below_counted true l v

-- tests that agree at each element keep the same elements
pub filter_agree : {X : Type 0} → (p q : X → Bool) (xs : List X) → ((x : X) → Contains xs x → p x ≡ q x) → filter p xs ≡ filter q xs
filter_agree {X = X} p q [] h = refl
filter_agree {X = X} p q (x ∷ xs) h = grind (arith, contains_later, contains_first, filter_agree p q xs (λ y c. h y (contains_later x xs y c)))

-- a node inside the tree of v has its parent at v or after it, so not the parent of v
not_beside : (l : List Bool) (b : IsBalanced l) (v w : ℕ) → HasPair l v → HasPair l w → v < w → w ≤ closing (forest_of l) v → parent (forest_of l) w ≡ parent (forest_of l) v → ⊥
not_beside l b v w h k x y e =
    let p = has_parent l b w v k h x (nested l v (closing (forest_of l) v) w (closing (forest_of l) w) h.closes k.closes x y) in
    omega (arith, parent_around l b v p.0 h (sym e ∙ p.1))

-- the tree that opens right after that of v has the same parent
same_parent : (l : List Bool) (b : IsBalanced l) (v : ℕ) → HasPair l v → HasPair l (closing (forest_of l) v + 1) → parent (forest_of l) (closing (forest_of l) v + 1) ≡ parent (forest_of l) v
unfolding parent
same_parent l b v h k =
    ap (last_or None) (filter_agree (λ a. is_proper_ancestor (forest_of l) a (closing (forest_of l) v + 1)) (λ a. is_proper_ancestor (forest_of l) a v) (nodes (forest_of l)) (λ a i.
    let q = (node_pair l b a i).closes in let x = h.closes in let y = k.closes in
    same_from_decides _ _ (grind (arith, ints, Decides-like, proper_decides)) (proper_decides (forest_of l) a v)))

-- ---- children
-- nothing opens inside a tree that closes right after it opens
no_child : (l : List Bool) (b : IsBalanced l) (v w : ℕ) → HasPair l v → get_or l (v + 1) false ≡ false → HasPair l w → parent (forest_of l) w ≡ Some v → ⊥
no_child l b v w h o k e = grind (arith, ints, excess_after_close, parent_around, excess_after_open l v false (omega arith) (opens l v h))

pub last_child_none : (l : List Bool) (b : IsBalanced l) (v : ℕ) → HasPair l v → closing (forest_of l) v ≡ v + 1 → last_of (children (forest_of l) v) ≡ None
unfolding nodes_under
last_child_none l b v h s = last_node l b _ _ (λ w. option_decides (parent (forest_of l) w) (Some v)) None (λ w k e. no_child l b v w h (rw s at (closes_falls l v (closing (forest_of l) v) false h.closes)) k e)

-- the last child closes right before the node
pub last_child_is_search : (l : List Bool) (b : IsBalanced l) (v c : ℕ) → HasPair l v → closing (forest_of l) v ≡ c + 1 → v < c → last_rise_before l c (negsuc 0) ≡ last_of (children (forest_of l) v)
unfolding nodes_under
last_child_is_search l b v c h s x =
    let m : Closes l v (c + 1) = rw s at h.closes in
    let p = zero_pair l b c (omega arith) (last_child_closes l v c m x) in let k = p.1 in let q = p.3 in
    let after = opens_around l p.0 c v (c + 1) q m (omega arith) (omega arith) in
    before_is l c (negsuc 0) p.0 (before_from_closes l p.0 c q)
    ∙ sym (last_node l b _ _ (λ w. option_decides (parent (forest_of l) w) (Some v)) (Some p.0) (k, above_parent l b p.0 v k (last_child_above l v c p.0 m q after), grind (arith, ints, parent_around, nested, has_parent)))

-- ---- siblings
-- what a tree's parent closes right after it has no later child
last_beside : (l : List Bool) (b : IsBalanced l) (v w : ℕ) → HasPair l v → closing (forest_of l) v + 1 < length l → get_or l (closing (forest_of l) v + 1) false ≡ false → HasPair l w → closing (forest_of l) v < w → parent (forest_of l) w ≡ parent (forest_of l) v → ⊥
last_beside l b v w h i o k x e =
    let s = zero_pair l b (closing (forest_of l) v + 1) i o in
    let z = opens_around l v (closing (forest_of l) v) s.0 (closing (forest_of l) v + 1) h.closes s.3 (omega arith) (omega arith) in
    let g = has_parent l b v s.0 h s.1 z (omega arith) in
    grind (arith, ints, parent_around, nested, eq-or-lt_of_le, parent_around l b w g.0 k (e ∙ g.1))

pub previous_sibling_none : (l : List Bool) (b : IsBalanced l) (v : ℕ) → HasPair l v → 0 < v → get_or l (v - 1) false ≡ true → previous_of (siblings (forest_of l) v) v ≡ None
unfolding nodes_under
previous_sibling_none l b v h some o =
    let e : v - 1 + 1 ≡ v = omega arith in let k : HasPair l (v - 1 + 1) = rw e h in
    let p : parent (forest_of l) v ≡ Some (v - 1) = rw e at (above_parent l b (v - 1 + 1) (v - 1) k (first_child_above l (v - 1) (closing (forest_of l) (v - 1)) (one_pair l b (v - 1) (omega arith) o).closes (opens l (v - 1 + 1) k))) in
    previous_in l b _ _ (λ w. option_decides (parent (forest_of l) w) (parent (forest_of l) v)) v None (λ w k g. let r = (parent_around l b w (v - 1) k (g.0 ∙ p)).0 in omega arith)

pub previous_sibling_is_search : (l : List Bool) (b : IsBalanced l) (v : ℕ) → HasPair l v → 0 < v → get_or l (v - 1) false ≡ false → last_rise_before l (v - 1) (negsuc 0) ≡ previous_of (siblings (forest_of l) v) v
unfolding nodes_under
previous_sibling_is_search l b v h some o =
    let p = zero_pair l b (v - 1) (omega arith) o in let at : closing (forest_of l) p.0 + 1 ≡ v = omega arith in
    let same = same_parent l b p.0 p.1 in
    before_is l (v - 1) (negsuc 0) p.0 (before_from_closes l p.0 (v - 1) p.3)
    ∙ sym (previous_in l b _ _ (λ w. option_decides (parent (forest_of l) w) (parent (forest_of l) v)) v (Some p.0) (grind (arith, ints, not_beside l b p.0)))

-- ---- by one bit: what opens at a position, and what closes right before it
abbrev pub opened_here : List Bool → ℕ → Option ℕ
opened_here l p = cond (get_or l p false) (Some p) None

abbrev pub closed_before : List Bool → ℕ → Option ℕ
closed_before l zero = None
closed_before l (suc u) = cond (get_or l u true) None (last_rise_before l u (negsuc 0))

pub first_child_is : (l : List Bool) (b : IsBalanced l) (v : ℕ) → HasPair l v → opened_here l (v + 1) ≡ first_of (children (forest_of l) v)
unfolding nodes_under
first_child_is l b v h = sym (first_in l b _ _ (λ w. option_decides (parent (forest_of l) w) (Some v)) (opened_here l (v + 1)) (grind (arith, ints, one_pair l b (v + 1), above_parent l b (v + 1) v, first_child_above l v (closing (forest_of l) v) h.closes, parent_around, no_child)))

pub next_sibling_is : (l : List Bool) (b : IsBalanced l) (v : ℕ) → HasPair l v → opened_here l (closing (forest_of l) v + 1) ≡ next_of (siblings (forest_of l) v) v
unfolding nodes_under
next_sibling_is l b v h = sym (next_in l b _ _ (λ w. option_decides (parent (forest_of l) w) (parent (forest_of l) v)) v (opened_here l (closing (forest_of l) v + 1)) (grind (arith, ints, one_pair, bit_inside, same_parent, not_beside, last_beside)))

pub last_child_is : (l : List Bool) (b : IsBalanced l) (v : ℕ) → HasPair l v → closed_before l (closing (forest_of l) v) ≡ last_of (children (forest_of l) v)
last_child_is l b v h = grind (arith, ints, get_or_default l (closing (forest_of l) v - 1) true false, last_child_closes, last_child_is_search, closes_rises, last_child_none)

pub previous_sibling_is : (l : List Bool) (b : IsBalanced l) (v : ℕ) → HasPair l v → closed_before l v ≡ previous_of (siblings (forest_of l) v) v
unfolding nodes_under
previous_sibling_is l b zero h = sym (previous_in l b _ _ (λ w. option_decides (parent (forest_of l) w) (parent (forest_of l) 0)) 0 None (λ w k e. omega arith))
previous_sibling_is l b (suc u) h = grind (arith, ints, inside, previous_sibling_none, get_or_default, previous_sibling_is_search)

-- ---- what the calls on a node answer, by the searches that they make
module _ (l : List Bool) (b : IsBalanced l) (v : ℕ) (n : IsNode (forest_of l) v) where
  -- where a search finds that it closes
  pub closing_by : first_rise_after l v (negsuc 0) ≡ Some (closing (forest_of l) v)
  closing_by = after_is l v (negsuc 0) (closing (forest_of l) v) (after_from_closes l v (closing (forest_of l) v) (node_pair l b v n).closes)

  pub closes_inside : (v < closing (forest_of l) v) × (closing (forest_of l) v < length l)
  closes_inside = let p = (node_pair l b v n).closes in (p.after, p.inside)

  -- by the ones before the node
  pub depth_by_ones : (ones : ℕ) → ones ≡ count true l v → (ones ≤ v) × (v - ones ≤ ones) × (ones - (v - ones) ≡ depth (forest_of l) v)
  unfolding excess
  depth_by_ones ones e = grind (arith, ints, closes_inside, count_both, depth_is_excess l b v (node_pair l b v n))

-- a list is empty where it has no first
pub leaf_by : (xs : List ℕ) (o : Option ℕ) (r : Bool) → is_some o ≡ not r → o ≡ first_of xs → IsTrue r ↔ (xs ≡ [])
leaf_by [] o r e f = grind arith
leaf_by (x ∷ xs) o r e f = grind arith

-- ---- in the words of any tree
-- a handle is the position itself
pub same_position : (o p : Option ℕ) → o ≡ p → option_map (λ v. v) o ≡ p
same_position o p e = grind arith

pub size_by : (l : List Bool) → IsBalanced l → (n : ℕ) → n ≡ count true l (length l) → n ≡ length (nodes (forest_of l))
size_by l b n e = e ∙ sym (length-positions true l) ∙ ap (λ (xs : List ℕ). length xs) (sym (nodes_by l b))

first_root : (F : Forest) → text F ≢ [] → first_of (nodes F) ≡ Some 0
first_root none h = absurd (h refl)
first_root (tree X Y) h = refl

pub root_by : (l : List Bool) → IsBalanced l → (o : Option ℕ) → (l ≡ [] → o ≡ None) → (l ≢ [] → o ≡ Some 0) → option_map (λ v. v) o ≡ first_of (nodes (forest_of l))
unfolding forest_of
root_by [] b o n s = same_position o None (n refl)
root_by (x ∷ l) b o n s = same_position o (Some 0) (s (λ e. absurd (cc))) ∙ sym (first_root (forest_of (x ∷ l)) (λ e. let g = sym (text-forest_of (x ∷ l) b) ∙ e in absurd (cc)))

pub handle_by : (l : List Bool) → IsBalanced l → (i n : ℕ) → n ≡ select true l i → i < length (nodes (forest_of l)) → slice_get (nodes (forest_of l)) i ≡ Some n
unfolding select
handle_by l b i n e h = grind (arith, nodes_by, slice_get-get_or)

pub empty_by : (l : List Bool) → IsBalanced l → (r : Bool) → IsTrue r ↔ (l ≡ []) → r ≡ (length (nodes (forest_of l)) == 0)
unfolding forest_of
empty_by [] b r h = h.1 refl
empty_by (x ∷ l) b r h =
    let w = slice_get_within (nodes (forest_of (x ∷ l))) 0 0 (first_root (forest_of (x ∷ l)) (λ e. let g = sym (text-forest_of (x ∷ l) b) ∙ e in absurd (cc))) in
    false_from_ne_true r (λ t. let e = h.0 t in absurd (cc)) ∙ sym (ne_eqb _ 0 (λ z. omega arith))
