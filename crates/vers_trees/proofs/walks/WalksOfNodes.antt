-- A walk from tree to tree below a node meets its children, forwards and backwards.
use Rattle.vers_trees.proofs.Names.{◌≡◌, ℕ, zero, suc, ◌+◌, ◌-◌, ◌<◌, ◌≤◌, Bool, true, false, List, [], ◌∷◌, length, reverse, get_or, eqb, negsuc, Option, Some, None, arith, sym, refl, ap, ◌∙◌, map, take, drop, slice_get, option_eq, slice_get_within, slice_get_past, cond_some, slice_get-get_or, get_or_from_slice_get, get_or-reverse, length-reverse, length-map, length-take, length-drop, get_or-map, get_or-take, get_or-drop, take_all, length-filter, count_by-le-length, count, positions, select, length-positions, count_le, Forest, IsBalanced, forest_of, nodes, closing, parent, nodes_under, children, siblings, last_of, next_of, previous_of, IsNode, subtree, tree_to, opened, tree_from, tree_before, met, walked, MeetsJust, opening_of, tree_beside, siblings_left, IsWalkOfSiblings, Contains-get_or, TakesFirst, postorder, subtree_post, closed_by}
use Rattle.vers_trees.proofs.searches.Searches.{after_is}
use Rattle.vers_trees.proofs.kin.Partners.{after_from_closes}
use Rattle.vers_trees.proofs.kin.NodeList.{HasPair, node_pair, nodes_by, opens, option_decides}
use Rattle.vers_trees.proofs.levels.NodeLaws.{AscendsFrom, nodes_ascend, filter_ascends, next_element, element_before, first_element_before, last_by_number, element_passes}
pub use Rattle.vers_trees.proofs.kin.Kin.{opened_here, closed_before, first_child_is, last_child_is, next_sibling_is, previous_sibling_is, closes_inside}
use Rattle.vers_trees.proofs.walks.ListsOfNodes.{postorder_by, positions_in, as_part, part_inside, part_size, subtree_is, subtree_size_is, subtree_post_is}

-- a walk that ends meets what `walked` gives, if it is given enough steps
pub walk_is : (step : ℕ → Option (ℕ × ℕ)) (n p : ℕ) (vs : List ℕ) → MeetsJust step p vs → length vs ≤ n → walked step n p ≡ vs
walk_is step zero p [] h g = refl
walk_is step (suc n) p [] h g = ap (λ (o : Option (ℕ × ℕ)). met o (walked step n)) h
walk_is step zero p (v ∷ vs) h g = absurd (omega arith)
walk_is step (suc n) p (v ∷ vs) h g = grind (arith, walk_is step n h.0 vs h.2 (omega arith))

-- a walk meets no more than its steps
pub walk_short : (step : ℕ → Option (ℕ × ℕ)) (n p : ℕ) → length (walked step n p) ≤ n
walk_short step zero p = omega arith
walk_short step (suc n) p = grind (arith, walk_short step n)

-- a walk meets a list whose elements its steps find one after another
steps_meet : (step : ℕ → Option (ℕ × ℕ)) (xs : List ℕ) (At : ℕ → ℕ → Type 0) → ((p i : ℕ) → At p i → slice_get xs i ≡ None → step p ≡ None) → ((p i v : ℕ) → At p i → slice_get xs i ≡ Some v → (q : ℕ) × (step p ≡ Some (v, q)) × At q (suc i)) → (p : ℕ) → At p 0 → MeetsJust step p xs
steps_meet step [] At none some p a = none p 0 a refl
steps_meet step (x ∷ xs) At none some p a = let s = some p 0 x a refl in (s.0, s.1, steps_meet step xs (λ p i. At p (suc i)) (λ p i. none p (suc i)) (λ p i. some p (suc i)) s.0 s.2)

-- ---- a list that ascends, from its end
reversed_at : (xs : List ℕ) (i : ℕ) → i < length xs → slice_get (reverse xs) i ≡ slice_get xs (length xs - 1 - i)
reversed_at xs i h =
    let e = length-reverse xs in
    slice_get-get_or (reverse xs) i 0 (omega arith) ∙ ap Some (get_or-reverse xs i 0 h) ∙ sym (slice_get-get_or xs (length xs - 1 - i) 0 (omega arith))

reversed_first : (xs : List ℕ) → slice_get (reverse xs) 0 ≡ last_of xs
reversed_first [] = refl
reversed_first (x ∷ xs) =
    let e : length (x ∷ xs) - 1 - 0 ≡ length (x ∷ xs) - 1 = omega arith in
    reversed_at (x ∷ xs) 0 (omega arith) ∙ ap (slice_get (x ∷ xs)) e ∙ sym (last_by_number (x ∷ xs))

reversed_next : (xs : List ℕ) (i j w : ℕ) → AscendsFrom 0 xs → i + j + 1 ≡ length xs → slice_get xs j ≡ Some w → slice_get (reverse xs) (suc i) ≡ previous_of xs w
reversed_next xs i zero w a h e = let r = length-reverse xs in slice_get_past (reverse xs) (suc i) (omega arith) ∙ sym (first_element_before 0 w xs a e)
reversed_next xs i (suc j) w a h e = grind (arith, reversed_at, element_before)

-- ---- children
children_ascend : (F : Forest) (v : ℕ) → AscendsFrom 0 (children F v)
unfolding nodes_under
children_ascend F v = filter_ascends _ 0 (nodes F) (nodes_ascend F)

child_element : (l : List Bool) (b : IsBalanced l) (v i w : ℕ) → slice_get (children (forest_of l) v) i ≡ Some w → HasPair l w × (siblings (forest_of l) w ≡ children (forest_of l) v)
unfolding nodes_under
child_element l b v i w e =
    let r = element_passes (λ w. option_eq eqb (parent (forest_of l) w) (Some v)) (nodes (forest_of l)) i w e in
    (node_pair l b w r.0, ap (nodes_under (forest_of l)) ((option_decides (parent (forest_of l) w) (Some v)).0 r.1))

children_few : (l : List Bool) (b : IsBalanced l) (v : ℕ) → length (children (forest_of l) v) ≤ length l
unfolding nodes_under
children_few l b v = grind (arith, length-filter, count_by-le-length, nodes_by, length-positions, count_le)

meets_forwards : (l : List Bool) (b : IsBalanced l) (v : ℕ) → HasPair l v → MeetsJust (tree_from l) (v + 1) (children (forest_of l) v)
meets_forwards l b v h = steps_meet (tree_from l) (children (forest_of l) v) (λ p i. slice_get (children (forest_of l) v) i ≡ opened_here l p)
    (λ p i a e. (grind arith))
    (λ p i w a e.
    let m = child_element l b v i w e in let k = m.0 in
    let at : p ≡ w = (cond_some (get_or l p false) p w (sym a ∙ e)).1 in (
      closing (forest_of l) w + 1,
      rw (at, opens l w k) (ap (tree_to w) (after_is l w (negsuc 0) (closing (forest_of l) w) (after_from_closes l w (closing (forest_of l) w) k.closes))),
      sym (next_element 0 i w (children (forest_of l) v) (children_ascend (forest_of l) v) e) ∙ ap (λ (vs : List ℕ). next_of vs w) (sym m.1) ∙ sym (next_sibling_is l b w k),
    ))
    (v + 1)
    (sym (first_child_is l b v h))

before_step : (l : List Bool) (p : ℕ) → tree_before l p ≡ opened (closed_before l p)
before_step l p = grind arith

meets_backwards : (l : List Bool) (b : IsBalanced l) (v : ℕ) → HasPair l v → MeetsJust (tree_before l) (closing (forest_of l) v) (reverse (children (forest_of l) v))
meets_backwards l b v h =
    let xs = children (forest_of l) v in
    steps_meet (tree_before l) (reverse xs) (λ p i. slice_get (reverse xs) i ≡ closed_before l p)
    (λ p i a e. before_step l p ∙ ap opened (sym a ∙ e))
    (λ p i w a e.
    let r = length-reverse xs in let n = slice_get_within (reverse xs) i w e in let at = sym (reversed_at xs i (omega arith)) ∙ e in
    let m = child_element l b v (length xs - 1 - i) w at in (
      w,
      before_step l p ∙ ap opened (sym a ∙ e),
      reversed_next xs i (length xs - 1 - i) w (children_ascend (forest_of l) v) (omega arith) at ∙ ap (λ (vs : List ℕ). previous_of vs w) (sym m.1) ∙ sym (previous_sibling_is l b w m.0),
    ))
    (closing (forest_of l) v)
    (reversed_first xs ∙ sym (last_child_is l b v h))

-- ---- the walks over nodes meet the lists of their definitions
-- ---- steps among siblings
pub walk_ends : (l : List Bool) (forward : Bool) (p : ℕ) → IsWalkOfSiblings l forward p → tree_beside l forward p ≡ None → TakesFirst (siblings_left l forward p) None (siblings_left l forward p)
walk_ends l forward p w e = (elim (siblings_left l forward p) as (λ (vs : List ℕ). MeetsJust (tree_beside l forward) p vs → TakesFirst vs None vs) [ [] ↦ λ m. record { given = refl; left = refl } | v ∷ vs ↦ λ m. absurd (cc) ]) w

pub walk_goes_on : (l : List Bool) (forward : Bool) (p v q : ℕ) → IsWalkOfSiblings l forward p → tree_beside l forward p ≡ Some (v, q) → TakesFirst (siblings_left l forward p) (Some v) (siblings_left l forward q) × IsWalkOfSiblings l forward q
unfolding siblings_left
walk_goes_on l forward p v q w e = go (siblings_left l forward p) w (walk_short (tree_beside l forward) (length l) p)
  where
    go : (vs : List ℕ) → MeetsJust (tree_beside l forward) p vs → length vs ≤ length l → TakesFirst vs (Some v) (siblings_left l forward q) × MeetsJust (tree_beside l forward) q (siblings_left l forward q)
    go [] m h = absurd (cc)
    go (u ∷ vs) m h = grind (arith, walk_is)

walk_from : (l : List Bool) (forward : Bool) (p : ℕ) (vs : List ℕ) → MeetsJust (tree_beside l forward) p vs → length vs ≤ length l → (siblings_left l forward p ≡ vs) × IsWalkOfSiblings l forward p
unfolding siblings_left
walk_from l forward p vs m h = grind (arith, walk_is)

pub forwards : (l : List Bool) (v : ℕ) → IsBalanced l → IsNode (forest_of l) v → (siblings_left l true (v + 1) ≡ children (forest_of l) v) × IsWalkOfSiblings l true (v + 1)
forwards l v b n = walk_from l true (v + 1) (children (forest_of l) v) (meets_forwards l b v (node_pair l b v n)) (children_few l b v)

pub backwards : (l : List Bool) (v c : ℕ) → IsBalanced l → IsNode (forest_of l) v → c ≡ closing (forest_of l) v → (siblings_left l false c ≡ reverse (children (forest_of l) v)) × IsWalkOfSiblings l false c
backwards l v c b n e = let r = length-reverse (children (forest_of l) v) in let f = children_few l b v in
    rw e (walk_from l false (closing (forest_of l) v) (reverse (children (forest_of l) v)) (meets_backwards l b v (node_pair l b v n)) (omega arith))

-- ---- the tree of a node
pub subtree_inside : (bit : Bool) (l : List Bool) (v : ℕ) → IsBalanced l → IsNode (forest_of l) v → count bit l v + length (subtree (forest_of l) v) ≤ length (positions bit l)
subtree_inside bit l v b n = grind (arith, node_pair, part_size, subtree_size_is, part_inside)

pub subtree_part : (l : List Bool) (v : ℕ) → IsBalanced l → IsNode (forest_of l) v → take (length (subtree (forest_of l) v)) (drop (count true l v) (positions true l)) ≡ subtree (forest_of l) v
subtree_part l v b n = grind (arith, subtree_is, node_pair, as_part)

pub subtree_post_part : (l : List Bool) (v : ℕ) → IsBalanced l → IsNode (forest_of l) v → map (opening_of l) (take (length (subtree (forest_of l) v)) (drop (count false l v) (positions false l))) ≡ subtree_post (forest_of l) v
subtree_post_part l v b n = grind (arith, node_pair, positions_in, part_size, subtree_size_is, as_part, subtree_post_is)

-- ---- handles
pub ones_are_nodes : (bits : List Bool) (i : ℕ) → IsBalanced bits → i < count true bits (length bits) → IsNode (forest_of bits) (select true bits i)
unfolding select
ones_are_nodes bits i b h = rw (nodes_by bits b) (Contains-get_or (positions true bits) i (length bits) (omega (arith, length-positions true bits)))

-- ---- the nodes that zeros close, as a source of items
pub length-closed_by : (l : List Bool) (k n : ℕ) → k + n ≤ length (positions false l) → length (closed_by l k n) ≡ n
length-closed_by l k n h = omega (arith, length-map (take n (drop k (positions false l))) (opening_of l), length-take n (drop k (positions false l)), length-drop k (positions false l))

-- a zero of number k + i is there, below the most bits that a list has
pub zero_inside : (l : List Bool) (k n i : ℕ) → k + n ≤ length (positions false l) → i < length (closed_by l k n) → k + i < length (positions false l)
zero_inside l k n i h low = omega (arith, length-closed_by l k n h)

pub zeros_fit : (l : List Bool) → length (positions false l) ≤ length l
zeros_fit l = omega (arith, length-positions false l, (count_le false l (length l)).1)

pub closed_item : (l : List Bool) (k n i c : ℕ) → k + n ≤ length (positions false l) → i < length (closed_by l k n) → slice_get (positions false l) (k + i) ≡ Some c → slice_get (closed_by l k n) i ≡ Some (opening_of l c)
closed_item l k n i c h low at =
    let few : i < n = omega (arith, low, length-closed_by l k n h) in
    let is = get_or-take n (drop k (positions false l)) i 0 few ∙ get_or-drop k (positions false l) i 0 ∙ get_or_from_slice_get (positions false l) (k + i) c 0 at in
    slice_get-get_or (closed_by l k n) i 0 low ∙ ap Some (get_or-map (opening_of l) (take n (drop k (positions false l))) i 0 0 (omega (arith, length-take n (drop k (positions false l)), length-drop k (positions false l))) ∙ ap (opening_of l) is)

-- the nodes that all zeros close are those of the forest, each after those below it
pub closed_by_all : (l : List Bool) (n : ℕ) → IsBalanced l → n ≡ length (positions false l) → closed_by l 0 n ≡ postorder (forest_of l)
closed_by_all l n b e = ap (map (opening_of l)) (take_all n (positions false l) (omega (arith, e))) ∙ postorder_by l b

pub ruleset closed = (length-closed_by, zero_inside, zeros_fit, closed_item)
