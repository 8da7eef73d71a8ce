-- The nodes of a node's tree are a part of all nodes, in preorder and in postorder.
use Rattle.vers_trees.proofs.Names.{◌≡◌, ℕ, suc, ◌+◌, ◌*◌, ◌<◌, ◌≤◌, ◌⊎◌, inl, inr, Bool, true, false, ◌&&◌, List, [], ◌∷◌, map, length, take, drop, ltb, leb, count_by, arith, ⊎_elim, subst, sym, refl, ap, ◌∙◌, filter, Decides, ints, cases_lt, lt-ltb, le-ltb, nat_tests, Decides-and, Decides-like, same_from_decides, All-weaker, length-filter, count_by-le-length, count, positions, count_both, excess, Forest, text, IsBalanced, forest_of, nodes, closing, is_ancestor, subtree, opening_of, pairs_by_closing, postorder, subtree_post, not-true}
use Rattle.vers_trees.proofs.grammar.Grammar.{text-forest_of}
use Rattle.vers_trees.proofs.grammar.Paired.{Paired}
use Rattle.vers_trees.proofs.kin.Partners.{before_from_closes, nested}
use Rattle.vers_trees.proofs.searches.Searches.{before_is}
pub use Rattle.vers_trees.proofs.kin.NodeList.{HasPair, nodes_by, node_pair, zero_pair, closing_is}
use Rattle.vers_trees.proofs.kin.Kin.{Decides-leb, ancestor_decides, below_counted, filter_agree}
use Rattle.vers_trees.proofs.grammar.Pairs.{one_if, count_by-cons}
use Rattle.vers_trees.proofs.walks.Lists.{filter_mapped, HasBitAt, all_positions, closing_is_zeros, closing_paired, mapped_all, postorder_opens}
use Rattle.vers_trees.proofs.levels.NodeLaws.{AscendsFrom, positions_ascend}

-- ---- numbers from v up to c
abbrev between : ℕ → ℕ → ℕ → Bool
between v c w = leb v w && leb w c

between_decides : (v c w : ℕ) → Decides (between v c w) ((v ≤ w) × (w ≤ c))
between_decides v c w = Decides-and (leb v w) (leb w c) (Decides-leb v w) (Decides-leb w c)

outside : (v c w : ℕ) → (w < v) ⊎ (c < w) → between v c w ≡ false
outside v c w o = grind (arith, nat_tests)

-- with those before v they are those before c + 1
count_between : (v c : ℕ) (xs : List ℕ) → v ≤ c + 1 → count_by (between v c) xs + count_by (λ w. ltb w v) xs ≡ count_by (λ w. ltb w (c + 1)) xs
count_between v c [] h = refl
count_between v c (x ∷ xs) h = grind (arith, ints, count_by-cons (between v c) x xs, count_by-cons (λ w. ltb w v) x xs, count_by-cons (λ w. ltb w (c + 1)) x xs, count_between v c xs h)

-- of numbers that ascend they are a part
past_part : (v c n : ℕ) (xs : List ℕ) → AscendsFrom n xs → c < n → filter (between v c) xs ≡ []
past_part v c n [] a h = refl
past_part v c n (x ∷ xs) a h = rw (outside v c x (inr (omega arith))) (past_part v c (x + 1) xs a.1 (omega arith))

first_part : (v c n : ℕ) (xs : List ℕ) → AscendsFrom n xs → v ≤ n → filter (between v c) xs ≡ take (length (filter (between v c) xs)) xs
first_part v c n [] a h = refl
first_part v c n (x ∷ xs) a h = grind (arith, past_part, between_decides, first_part v c (x + 1) xs a.1 (omega arith))

none_below : (v n : ℕ) (xs : List ℕ) → AscendsFrom n xs → v ≤ n → count_by (λ w. ltb w v) xs ≡ 0
none_below v n [] a h = refl
none_below v n (x ∷ xs) a h = grind (arith, ints, count_by-cons, one_if, le-ltb, none_below v (x + 1) xs a.1 (omega arith))

between_is_part : (v c n : ℕ) (xs : List ℕ) → AscendsFrom n xs → filter (between v c) xs ≡ take (length (filter (between v c) xs)) (drop (count_by (λ w. ltb w v) xs) xs)
between_is_part v c n [] a = refl
between_is_part v c n (x ∷ xs) a = ⊎_elim
    (λ (z : x < v).
    let e : count_by (λ w. ltb w v) (x ∷ xs) ≡ suc (count_by (λ w. ltb w v) xs) = omega (arith, count_by-cons (λ w. ltb w v) x xs, ap one_if (lt-ltb x v z)) in
    rw (e, outside v c x (inl z)) (between_is_part v c (x + 1) xs a.1))
    (λ (z : v ≤ x). rw (none_below v x (x ∷ xs) (omega arith, a.1) z) (first_part v c x (x ∷ xs) (omega arith, a.1) z))
    (cases_lt x v)

-- ---- the tree of a node is what opens, and what closes, from where it opens up to where it closes
-- the positions of a bit in it, and how many they are
pub positions_in : Bool → List Bool → ℕ → List ℕ
positions_in bit l v = filter (between v (closing (forest_of l) v)) (positions bit l)

pub as_part : (bit : Bool) (l : List Bool) (v : ℕ) → positions_in bit l v ≡ take (length (positions_in bit l v)) (drop (count bit l v) (positions bit l))
unfolding positions_in
as_part bit l v = rw (← below_counted bit l v) (between_is_part v (closing (forest_of l) v) 0 (positions bit l) (positions_ascend bit l))

pub part_counted : (bit : Bool) (l : List Bool) (v : ℕ) → HasPair l v → length (positions_in bit l v) + count bit l v ≡ count bit l (closing (forest_of l) v + 1)
unfolding positions_in
part_counted bit l v h = grind (arith, ints, below_counted, length-filter, count_between v (closing (forest_of l) v) (positions bit l))

pub part_inside : (bit : Bool) (l : List Bool) (v : ℕ) → HasPair l v → count bit l v + length (positions_in bit l v) ≤ length (positions bit l)
part_inside bit l v h = grind (arith, part_counted, below_counted, count_by-le-length)

-- twice as many are the positions from the opening bracket to the closing one
pub part_size : (bit : Bool) (l : List Bool) (v : ℕ) → HasPair l v → 2 * length (positions_in bit l v) + v ≡ closing (forest_of l) v + 1
unfolding excess
part_size bit l v h = grind (arith, count_both, part_counted, positions_in)

-- the nodes of the tree of v, in preorder
pub subtree_is : (l : List Bool) (b : IsBalanced l) (v : ℕ) → HasPair l v → subtree (forest_of l) v ≡ positions_in true l v
unfolding subtree positions_in
subtree_is l b v h = filter_agree (λ w. is_ancestor (forest_of l) v w) (between v (closing (forest_of l) v)) (nodes (forest_of l)) (λ w i. let k = node_pair l b w i in grind (arith, ints, same_from_decides, Decides-like, ancestor_decides, between_decides)) ∙ ap (filter (between v (closing (forest_of l) v))) (nodes_by l b)

pub subtree_size_is : (l : List Bool) (b : IsBalanced l) (v : ℕ) → HasPair l v → 2 * length (subtree (forest_of l) v) + v ≡ closing (forest_of l) v + 1
subtree_size_is l b v h = grind (arith, ints, part_size, subtree_is)

-- in postorder
pub postorder_by : (l : List Bool) → IsBalanced l → map (opening_of l) (positions false l) ≡ postorder (forest_of l)
postorder_by l b = subst (λ (m : List Bool). map (opening_of m) (positions false m) ≡ postorder (forest_of l)) (text-forest_of l b) (postorder_opens (forest_of l))

pub subtree_post_is : (l : List Bool) (b : IsBalanced l) (v : ℕ) → HasPair l v → subtree_post (forest_of l) v ≡ map (opening_of l) (positions_in false l v)
unfolding subtree_post positions_in
subtree_post_is l b v h =
    ap (filter (λ w. is_ancestor (forest_of l) v w)) (sym (postorder_by l b))
    ∙ filter_mapped (λ w. is_ancestor (forest_of l) v w) (between v (closing (forest_of l) v)) (opening_of l) (positions false l) (All-weaker (HasBitAt false l) (λ k. is_ancestor (forest_of l) v (opening_of l k) ≡ between v (closing (forest_of l) v) k) (λ k y. let p = zero_pair l b k y.inside (not-true _ y.holds) in grind (arith, before_is, before_from_closes, same_from_decides, Decides-like, nested, ancestor_decides, between_decides)) (positions false l) (all_positions false l))

-- ---- the orders
pub closes_in_order : (F : Forest) → map (closing F) (postorder F) ≡ positions false (text F)
closes_in_order F =
    let closes = All-weaker (λ q. Paired F q.0 q.1) (λ q. closing F q.0 ≡ q.1) (λ q h. closing_is F q.0 q.1 h) (pairs_by_closing F) (closing_paired F) in
    mapped_all (closing F) (λ q. q.0) (λ q. q.1) (pairs_by_closing F) closes ∙ closing_is_zeros F
