-- The nodes of one depth: which of them the searches find.
use Rattle.vers_trees.proofs.Names.{◌≡◌, ℕ, ◌+◌, ◌-◌, ◌<◌, ◌≤◌, ◌≢◌, ◌↔◌, Bool, true, false, ◌&&◌, List, length, get_or, eqb, ℤ, pos, negsuc, neg_ℤ, ◌+ℤ◌, ◌-ℤ◌, ◌<ℤ◌, Option, Some, None, arith, sym, ap, ◌∙◌, Decides, ints, cases_lt, Decides-eqb, Decides-and, eq-or-lt_of_le, count_le, excess, first_rise_after, last_rise_before, Forest, IsBalanced, forest_of, true_from_ne_false, false_from_ne_true, closing, is_ancestor, depth, level, level_ancestor, first_of, last_of, next_of, previous_of}
use Rattle.vers_trees.proofs.searches.Searches.{by_answer, after_some, after_none, before_some, before_is, before_none}
use Rattle.vers_trees.proofs.grammar.Excess.{turned, above_until, above_since, excess-zero, excess-is_walk, excess_after_open, excess_after_close, open_from_rise, close_from_fall}
use Rattle.vers_trees.proofs.grammar.Grammar.{balanced_total, balanced_above}
use Rattle.vers_trees.proofs.kin.Partners.{before_from_closes}
pub use Rattle.vers_trees.proofs.kin.NodeList.{HasPair, one_pair, zero_pair, opens, inside, IsFirstNode, IsLastNode, first_node, first_in, last_node, next_in, previous_in, node_pair}
use Rattle.vers_trees.proofs.kin.Kin.{ancestor_decides, above_from_before, above_is_around, depth_is_excess}

-- ---- positions at which the excess is x, below which it is at a position before or after
-- after c the first of them is past a one
opens_at : (l : List Bool) (c w : ℕ) (x : ℤ) → excess l (c + 1) <ℤ x → c < w → w < length l → excess l (w + 1) ≡ x → ((k : ℕ) → c < k → k < w → excess l (k + 1) ≢ x) → get_or l w false ≡ true
opens_at l c w x h a i s n =
    let low = above_until (λ i. pos 0 -ℤ excess l i) (turned (excess l) (excess-is_walk l)) (pos 0 -ℤ x) (c + 1) w (omega arith) (omega (arith, ints)) (λ k y z e. let g : excess l (k - 1 + 1) ≡ excess l k = ap (excess l) (omega arith) in n (k - 1) (omega arith) (omega arith) (omega (arith, ints))) in
    open_from_rise l w false i (omega (arith, ints))

-- before v the last of them is at a zero
closes_at : (l : List Bool) (c v : ℕ) (x : ℤ) → excess l v <ℤ x → c < v → v < length l → excess l c ≡ x → ((k : ℕ) → c < k → k < v → excess l k ≢ x) → get_or l c false ≡ false
closes_at l c v x h a i s n =
    let low = above_since (λ i. pos 0 -ℤ excess l i) (turned (excess l) (excess-is_walk l)) (pos 0 -ℤ x) (c + 1) v (omega arith) (omega (arith, ints)) (λ k y z e. n k (omega arith) z (omega (arith, ints))) in
    close_from_fall l c false (omega arith) (omega (arith, ints))

-- and right past no one between
not_between : (l : List Bool) (c v u : ℕ) (x : ℤ) → ((k : ℕ) → c < k → k < v → excess l k ≢ x) → excess l v ≢ x → c ≤ u → u < v → v ≤ length l → get_or l u false ≡ true → excess l u +ℤ pos 1 ≢ x
not_between l c v u x n ne a b i o e = grind (arith, ints, excess_after_open, eq-or-lt_of_le)

-- ---- the first node that opens past c where the excess is r above that past c
module _ (l : List Bool) (b : IsBalanced l) (c : ℕ) (r : ℤ) (some : pos 0 <ℤ r) (P : ℕ → Type 0) (is : (w : ℕ) → HasPair l w → P w ↔ ((c < w) × (excess l (w + 1) ≡ excess l (c + 1) +ℤ r))) where
  opened_after : IsFirstNode l P (first_rise_after l c r)
  opened_after = by_answer (IsFirstNode l P) (first_rise_after l c r)
      (λ e w k p. after_none l c r e w ((is w k).0 p).0 (inside l w k) ((is w k).0 p).1)
      (λ u e.
      let q = after_some l c r u e in
      let k = one_pair l b u q.inside (opens_at l c u (excess l (c + 1) +ℤ r) (omega (arith, ints)) q.after q.inside q.sum q.first) in
      (k, (is u k).1 (q.after, q.sum), λ w x kw p. q.first w ((is w kw).0 p).0 x ((is w kw).0 p).1))

-- what opens for a position, if there is one
abbrev pub opens_for : List Bool → Option ℕ → Option ℕ
opens_for l None = None
opens_for l (Some c) = last_rise_before l c (negsuc 0)

-- ---- the last node that opens before v where the excess, with the node's own one, is r above that before v
module _ (l : List Bool) (b : IsBalanced l) (v : ℕ) (r : ℤ) (some : pos 0 <ℤ r) (P : ℕ → Type 0) (is : (w : ℕ) → HasPair l w → P w ↔ ((w < v) × (excess l w +ℤ pos 1 ≡ excess l v +ℤ r))) where
  -- it is the tree that closes where the excess is that
  opened_before : v < length l → (o : Option ℕ) → last_rise_before l v r ≡ o → IsLastNode l P (opens_for l o)
  opened_before i None e = λ w k p.
      let q = (is w k).0 p in not_between l 0 v w (excess l v +ℤ r) (λ k y z. before_none l v r i e k z) (omega (arith, ints)) (omega arith) q.0 (omega arith) (opens l w k) q.1
  opened_before i (Some c) e =
      let q = before_some l v r c e in let qb = q.before in let qi = q.inside in
      let f = closes_at l c v (excess l v +ℤ r) (omega (arith, ints)) qb qi q.sum q.last in let p = zero_pair l b c (omega arith) f in let m = p.3 in
      let fall = excess_after_close l c false (omega arith) f in
      rw (before_is l c (negsuc 0) p.0 (before_from_closes l p.0 c m)) (
        p.1,
        (is p.0 p.1).1 (omega arith, omega (arith, ints)),
        λ u a k pu. grind (arith, ints, cases_lt c u, not_between l c v u _ q.last, (is u k).0 pu, opens l u k, m.above u a),
      )

-- ---- the ancestors of a node
abbrev at_depth : Forest → ℕ → ℕ → ℕ → Bool
at_depth F v t a = is_ancestor F a v && eqb (depth F a + t) (depth F v)

at_depth_decides : (F : Forest) (v t a : ℕ) → Decides (at_depth F v t a) (((a ≤ v) × (closing F v ≤ closing F a)) × (depth F a + t ≡ depth F v))
at_depth_decides F v t a = Decides-and (is_ancestor F a v) (eqb (depth F a + t) (depth F v)) (ancestor_decides F a v) (Decides-eqb (depth F a + t) (depth F v))

pub no_steps_up : (l : List Bool) (b : IsBalanced l) (v : ℕ) → HasPair l v → level_ancestor (forest_of l) v 0 ≡ Some v
unfolding level_ancestor
no_steps_up l b v h = first_node l b _ _ (at_depth_decides (forest_of l) v 0) (Some v) (h, ((omega arith, omega arith), omega arith), grind (arith, ints, depth_is_excess))

pub level_ancestor_is_search : (l : List Bool) (b : IsBalanced l) (v t : ℕ) → HasPair l v → 0 < t → last_rise_before l v (neg_ℤ (pos t)) ≡ level_ancestor (forest_of l) v t
unfolding level_ancestor
level_ancestor_is_search l b v t h some = by_answer (λ o. o ≡ level_ancestor (forest_of l) v t) (last_rise_before l v (neg_ℤ (pos t)))
    (λ e. sym (first_node l b _ _ (at_depth_decides (forest_of l) v t) None (grind (arith, ints, depth_is_excess, before_none, inside, eq-or-lt_of_le))))
    (λ a e.
    let m = above_from_before l b v t a some (opens l v h) (before_some l v (neg_ℤ (pos t)) a e) in let r = above_is_around l b v t a h m in
    sym (first_node l b _ _ (at_depth_decides (forest_of l) v t) (Some a) (grind (arith, ints, depth_is_excess))))

-- no node is so deep
depth_small : (l : List Bool) (b : IsBalanced l) (v : ℕ) → HasPair l v → depth (forest_of l) v < length l
unfolding excess
depth_small l b v h = grind (arith, ints, depth_is_excess, inside, count_le)

pub too_far_up : (l : List Bool) (b : IsBalanced l) (v t : ℕ) → HasPair l v → length l ≤ t → level_ancestor (forest_of l) v t ≡ None
unfolding level_ancestor
too_far_up l b v t h far = first_node l b _ _ (at_depth_decides (forest_of l) v t) None (λ w k g. let s = depth_small l b v h in omega arith)

-- ---- the neighbours on a level
-- the nodes of the depth of v after it open past its tree, and those before it before it
later_on_level : (l : List Bool) (b : IsBalanced l) (v : ℕ) → HasPair l v → (w : ℕ) → HasPair l w → ((depth (forest_of l) w ≡ depth (forest_of l) v) × (v < w)) ↔ ((closing (forest_of l) v < w) × (excess l (w + 1) ≡ excess l (closing (forest_of l) v + 1) +ℤ pos 1))
later_on_level l b v h w k = grind (arith, ints, depth_is_excess l b w k, depth_is_excess l b v h, excess_after_open l w false (inside l w k) (opens l w k), h.closes.above w)

pub level_next_is_search : (l : List Bool) (b : IsBalanced l) (v : ℕ) → HasPair l v → first_rise_after l (closing (forest_of l) v) (pos 1) ≡ next_of (level (forest_of l) (depth (forest_of l) v)) v
unfolding level
level_next_is_search l b v h = sym (next_in l b _ _ (λ w. Decides-eqb (depth (forest_of l) w) (depth (forest_of l) v)) v _ (opened_after l b (closing (forest_of l) v) (pos 1) (omega (arith, ints)) _ (later_on_level l b v h)))

pub level_prev_is_search : (l : List Bool) (b : IsBalanced l) (v : ℕ) (o : Option ℕ) → HasPair l v → last_rise_before l v (pos 1) ≡ o → opens_for l o ≡ previous_of (level (forest_of l) (depth (forest_of l) v)) v
unfolding level
level_prev_is_search l b v o h e = sym (previous_in l b _ _ (λ w. Decides-eqb (depth (forest_of l) w) (depth (forest_of l) v)) v _ (opened_before l b v (pos 1) (omega (arith, ints)) _ (λ w k. grind (arith, ints, depth_is_excess)) (inside l v h) o e))

-- ---- the ends of a level
-- a forest with a node opens at 0 and closes at its end
opens_first : (l : List Bool) (b : IsBalanced l) → 0 < length l → HasPair l 0
opens_first l b h = one_pair l b 0 h (true_from_ne_false _ (λ e. let r = excess_after_close l 0 false h e in let z = excess-zero l in let a = balanced_above l b (0 + 1) (omega arith) in omega (arith, ints)))

closes_last : (l : List Bool) (b : IsBalanced l) (n : ℕ) → length l ≡ n + 1 → get_or l n false ≡ false
closes_last l b n e =
    let t : excess l (n + 1) ≡ pos 0 = ap (excess l) (sym e) ∙ balanced_total l b in let a = balanced_above l b n (omega arith) in
    false_from_ne_true _ (λ o. let r = excess_after_open l n false (omega arith) o in omega (arith, ints))

pub first_root : (l : List Bool) (b : IsBalanced l) → 0 < length l → first_of (level (forest_of l) 0) ≡ Some 0
unfolding level
first_root l b h = first_in l b _ _ (λ w. Decides-eqb (depth (forest_of l) w) 0) (Some 0) (grind (arith, ints, opens_first l b h, excess-zero l, depth_is_excess l b 0))

-- no node is as deep as a forest is long
pub too_deep : (l : List Bool) (b : IsBalanced l) (t : ℕ) → length l ≤ t → (first_of (level (forest_of l) t) ≡ None) × (last_of (level (forest_of l) t) ≡ None)
unfolding level
too_deep l b t far = (first_in l b _ _ (λ w. Decides-eqb (depth (forest_of l) w) t) None (λ w k g. let s = depth_small l b w k in omega arith), last_node l b _ _ (λ w. Decides-eqb (depth (forest_of l) w) t) None (λ w k g. let s = depth_small l b w k in omega arith))

-- below the first root a node opens where the excess rises from there
below_first : (l : List Bool) (b : IsBalanced l) (t : ℕ) → 0 < t → (w : ℕ) → HasPair l w → (depth (forest_of l) w ≡ t) ↔ ((0 < w) × (excess l (w + 1) ≡ excess l (0 + 1) +ℤ pos t))
below_first l b t some w k =
    let one = excess_after_open l 0 false (omega arith) (opens l 0 (opens_first l b (omega arith))) in
    grind (arith, ints, cases_lt w 1, excess-zero l, depth_is_excess l b w k, excess_after_open l w false (inside l w k) (opens l w k))

pub level_leftmost_is_search : (l : List Bool) (b : IsBalanced l) (t : ℕ) → 0 < t → first_rise_after l 0 (pos t) ≡ first_of (level (forest_of l) t)
unfolding level
level_leftmost_is_search l b t some = sym (first_in l b _ _ (λ w. Decides-eqb (depth (forest_of l) w) t) _ (opened_after l b 0 (pos t) (omega (arith, ints)) _ (below_first l b t some)))

-- the last root closes at the end
pub last_root_is_search : (l : List Bool) (b : IsBalanced l) (n : ℕ) → length l ≡ n + 1 → last_rise_before l n (negsuc 0) ≡ last_of (level (forest_of l) 0)
unfolding level
last_root_is_search l b n e =
    let p = zero_pair l b n (omega arith) (closes_last l b n e) in let q = p.3 in let t : excess l (n + 1) ≡ pos 0 = ap (excess l) (sym e) ∙ balanced_total l b in
    before_is l n (negsuc 0) p.0 (before_from_closes l p.0 n q)
    ∙ sym (last_node l b _ _ (λ w. Decides-eqb (depth (forest_of l) w) 0) (Some p.0) (grind (arith, ints, depth_is_excess, inside)))

before_end : (l : List Bool) (b : IsBalanced l) (n t : ℕ) → length l ≡ n + 1 → (w : ℕ) → HasPair l w → (depth (forest_of l) w ≡ t) ↔ ((w < n) × (excess l w +ℤ pos 1 ≡ excess l n +ℤ pos t))
before_end l b n t e w k =
    let all : excess l (n + 1) ≡ pos 0 = ap (excess l) (sym e) ∙ balanced_total l b in
    grind (arith, ints, inside, depth_is_excess l b w k, excess_after_close l n false (omega arith) (closes_last l b n e))

pub level_rightmost_is_search : (l : List Bool) (b : IsBalanced l) (n t : ℕ) (o : Option ℕ) → length l ≡ n + 1 → 0 < t → last_rise_before l n (pos t) ≡ o → opens_for l o ≡ last_of (level (forest_of l) t)
unfolding level
level_rightmost_is_search l b n t o e some found = sym (last_node l b _ _ (λ w. Decides-eqb (depth (forest_of l) w) t) _ (opened_before l b n (pos t) (omega (arith, ints)) _ (before_end l b n t e) (omega arith) o found))
