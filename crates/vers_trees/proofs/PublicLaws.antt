-- The laws that proofs of other crates may cite. A crate above imports this file and no other of this folder.
use Rattle.vers_trees.proofs.Names.{◌≡◌, ℕ, suc, ◌+◌, ◌-◌, ◌*◌, ◌^◌, ◌<◌, ◌≤◌, ◌↔◌, ⊎_elim, Bool, true, false, not, List, [], ◌∷◌, ◌++◌, map, length, get_or, eqb, max, Option, Some, None, slice_get, option_map, Contains, enclosing, Forest, text, pairs, IsBalanced, forest_of, block_count, clog, node_count, nodes, IsNode, closing, parent, depth, level, first_of, last_of, next_of, previous_of, IsAlongLevel, arith, refl, sym, subst, ap, ◌∙◌, cases_lt, take, slice_get-get_or, get_or_from_slice_get, slice_get_within, length_push, map-append, take_all, take_more, Decides-eqb, length-filter_both, clog_least, div_ceil_times, pow_next, negsuc, first_rise_after, last_rise_before, ints, rules, Reads, AddsAtMost, IsWithin, superblock_count, get_reads, rank_reads, select_reads, levels, search_reads, enclose_reads, two_searches_reads, post_reads, tree_reads}
-- reading from the left decides whether parentheses are balanced
pub use Rattle.vers_trees.proofs.grammar.Grammar.{balance_decides}
-- the forest of a balanced list writes down that list again, and that of a text is the one written down
pub use Rattle.vers_trees.proofs.grammar.Grammar.{text-forest_of, forest_of-text}
use Rattle.vers_trees.proofs.grammar.Paired.{closes_rises, closes_falls, paired_closes, closes_paired, open_is_paired, close_is_paired, Closes}
use Rattle.vers_trees.proofs.grammar.Pairs.{contains_map, paired_from_contains, contains_from_paired}
use Rattle.vers_trees.proofs.kin.Kin.{parent_is_search}
use Rattle.vers_trees.proofs.kin.NodeList.{one_pair, bit_inside, node_pair, opens}
use Rattle.vers_trees.proofs.layout.Widths.{some_counted}
use Rattle.vers_trees.proofs.levels.NodeLaws.{AscendsFrom, nodes_ascend, filter_ascends, next_element, element_before, first_element_before, last_by_number, element_passes, passing_holds}
use Rattle.vers_trees.proofs.searches.Beside.{enclosing_open, enclosing_close}
use Rattle.vers_trees.proofs.searches.Searches.{after_some, after_is, before_some, before_is, before_none, none_before}
use Rattle.vers_trees.proofs.kin.Partners.{after_from_closes, closes_from_after, before_from_closes, closes_from_before, before_pair, enclose_at_close}

-- ---- nodes

-- in a balanced list a node opens at exactly the positions that have a one; a position past the end counts as a zero
pub node_iff_bit : (bits : List Bool) (v : ℕ) → IsBalanced bits → IsNode (forest_of bits) v ↔ (get_or bits v false ≡ true)
node_iff_bit bits v b = (
  λ n. opens bits v (node_pair bits b v n),
  λ e. contains_map (λ (q : ℕ × ℕ). q.0) (pairs (forest_of bits)) (v, closing (forest_of bits) v) (one_pair bits b v (bit_inside bits v e) e).is_pair,
)

-- the same, by what is at the position
pub node_iff_one : (bits : List Bool) (v : ℕ) → IsBalanced bits → IsNode (forest_of bits) v ↔ (slice_get bits v ≡ Some true)
node_iff_one bits v b = grind (arith, ints, slice_get-get_or, bit_inside, get_or_from_slice_get, node_iff_bit bits v b)

-- ---- pairs

-- what a list has at a position
has_bit : (l : List Bool) (i : ℕ) (b : Bool) → slice_get l i ≡ Some b → (i < length l) × (get_or l i false ≡ b)
has_bit l i b e = (slice_get_within l i b e, get_or_from_slice_get l i b false e)

pub close_pair : (F : Forest) (v c : ℕ) → slice_get (text F) v ≡ Some true → (first_rise_after (text F) v (negsuc 0) ≡ Some c) ↔ Contains (pairs F) (v, c)
close_pair F v c h = (
  λ e. contains_from_paired F v c (grind (arith, ints, closes_paired, closes_from_after, has_bit, after_some)),
  λ k. after_is (text F) v (negsuc 0) c (after_from_closes (text F) v c (paired_closes F v c (paired_from_contains F (v, c) k))),
)

pub open_pair : (F : Forest) (v c : ℕ) → slice_get (text F) c ≡ Some false → (last_rise_before (text F) c (negsuc 0) ≡ Some v) ↔ Contains (pairs F) (v, c)
open_pair F v c h = (
  λ e. contains_from_paired F v c (grind (arith, ints, closes_paired, closes_from_before, has_bit, before_some)),
  λ k. before_is (text F) c (negsuc 0) v (before_from_closes (text F) v c (paired_closes F v c (paired_from_contains F (v, c) k))),
)

pub open_of_close : (F : Forest) (v : ℕ) → slice_get (text F) v ≡ Some true → (c : ℕ) × (first_rise_after (text F) v (negsuc 0) ≡ Some c) × (last_rise_before (text F) c (negsuc 0) ≡ Some v)
open_of_close F v h = grind (arith, has_bit, open_is_paired, paired_closes, after_is, after_from_closes, before_is, before_from_closes)

pub close_of_open : (F : Forest) (c : ℕ) → slice_get (text F) c ≡ Some false → (v : ℕ) × (last_rise_before (text F) c (negsuc 0) ≡ Some v) × (first_rise_after (text F) v (negsuc 0) ≡ Some c)
close_of_open F c h = grind (arith, has_bit, close_is_paired, paired_closes, before_is, before_from_closes, after_is, after_from_closes)

-- from the closing bracket of a pair two less is found where one less is from the opening one
pub found_at_close : (l : List Bool) (v c : ℕ) → Closes l v c → (o : Option ℕ) → last_rise_before l v (negsuc 0) ≡ o → last_rise_before l c (negsuc 1) ≡ o
found_at_close l v c q None e = none_before l c (negsuc 1) (λ k x h. let b = before_pair l v c q k x h in before_none l v (negsuc 0) (omega arith) e k b.0 b.1)
found_at_close l v c q (Some p) e = search (rules, before_is, enclose_at_close, before_some)

-- of both positions of a pair, the nearest pair around it opens at the parent of its node
pub enclosed_by_parent : (F : Forest) (v c : ℕ) → Contains (pairs F) (v, c) → (enclosing (text F) v ≡ parent F v) × (enclosing (text F) c ≡ parent F v)
enclosed_by_parent F v c k =
    let q = paired_closes F v c (paired_from_contains F (v, c) k) in let opens = closes_rises (text F) v c false q in
    let b : IsBalanced (text F) = record { forest = F; written = refl } in
    let s = rw (forest_of-text F) at (parent_is_search (text F) b v (one_pair (text F) b v (omega arith) opens)) in (
      sym (enclosing_open (text F) v opens) ∙ s,
      sym (enclosing_close (text F) c (closes_falls (text F) v c false q)) ∙ found_at_close (text F) v c q (parent F v) s,
    )

pub ruleset written = (text-forest_of)

-- ---- the tree over the blocks

few_over : (b : ℕ) → 0 < b → b + max 1 (2 ^ clog b - 1) < 3 * b
few_over b h =
    let low : 0 < clog b → 2 ^ (clog b - 1) < b = λ x. grind (arith, cases_lt (2 ^ (clog b - 1)) b, clog_least b (clog b - 1)) in
    let one : clog b ≤ 0 → 2 ^ clog b ≡ 1 = λ x. ap (λ (n : ℕ). 2 ^ n) (let z : clog b ≡ 0 = omega arith in z) in
    grind (arith, cases_lt 0 (clog b), pow_next)

-- it has fewer than three nodes a block
pub few_nodes : (size n : ℕ) → 0 < size → 0 < n → node_count size n < 3 * block_count size n
few_nodes size n s h = rw (some_counted size n h).0 (few_over (block_count size n) (grind (arith, div_ceil_times)))

-- ---- levels

level_ascends : (F : Forest) (d : ℕ) → AscendsFrom 0 (level F d)
unfolding level
level_ascends F d = filter_ascends (λ v. eqb (depth F v) d) 0 (nodes F) (nodes_ascend F)

level_element : (F : Forest) (d i v : ℕ) → slice_get (level F d) i ≡ Some v → IsNode F v × (depth F v ≡ d)
unfolding level
level_element F d i v e = grind (arith, element_passes, Decides-eqb)

-- a level holds the nodes of its depth, and nothing else
pub level_iff_depth : (F : Forest) (d v : ℕ) → Contains (level F d) v ↔ (IsNode F v × (depth F v ≡ d))
unfolding level
level_iff_depth F d v = (
  λ c. level_element F d c.0 v (slice_get-get_or (level F d) c.0 v c.1 ∙ ap Some c.2),
  λ h. passing_holds (λ v. eqb (depth F v) d) (nodes F) v h.0 ((Decides-eqb (depth F v) d).1 h.1),
)

-- the element of number i of a level is a node of its depth, and the next one on the level is the element after it
pub levels_go_on : (F : Forest) (d i v : ℕ) → slice_get (level F d) i ≡ Some v
    → IsNode F v × (depth F v ≡ d) × (next_of (level F d) v ≡ slice_get (level F d) (i + 1))
levels_go_on F d i v e =
    let m = level_element F d i v e in let s : suc i ≡ i + 1 = omega arith in
    (m.0, m.1, next_element 0 i v (level F d) (level_ascends F d) e ∙ ap (slice_get (level F d)) s)

-- the one before on the level is the element before it, and before the first there is none; the last has the greatest number
pub levels_go_back : (F : Forest) (d : ℕ) → (last_of (level F d) ≡ slice_get (level F d) (length (level F d) - 1))
    × ((v : ℕ) → slice_get (level F d) 0 ≡ Some v → previous_of (level F d) v ≡ None)
    × ((i v : ℕ) → slice_get (level F d) (i + 1) ≡ Some v → previous_of (level F d) v ≡ slice_get (level F d) i)
levels_go_back F d = (
  last_by_number (level F d),
  λ v e. first_element_before 0 v (level F d) (level_ascends F d) e,
  λ i v e. let s : i + 1 ≡ suc i = omega arith in element_before 0 i v (level F d) (level_ascends F d) (subst (λ (k : ℕ). slice_get (level F d) k ≡ Some v) s e),
)

-- no level has more elements than the forest has nodes
pub levels_are_parts : (F : Forest) (d : ℕ) → length (level F d) ≤ length (nodes F)
unfolding level
levels_are_parts F d = omega (arith, length-filter_both (λ v. eqb (depth F v) d) (λ v. not (eqb (depth F v) d)) (λ v. refl) (nodes F))

-- ---- walks along a level by handles: what a loop by `level_leftmost` and `level_next` keeps

element_met : {H : Type 0} {position : H → ℕ} {F : Forest} {d : ℕ} {met : List H} {next : Option H} {v : H} → IsAlongLevel position F d met next → next ≡ Some v → slice_get (level F d) (length met) ≡ Some (position v)
element_met {position = position} h e = sym h.then ∙ ap (option_map position) e

-- from the first node of the level
pub walk_begins : {H : Type 0} {position : H → ℕ} {F : Forest} {d : ℕ} {next : Option H} → option_map position next ≡ first_of (level F d) → IsAlongLevel position F d [] next
walk_begins e = record { first = refl; then = e }

-- the handle that comes next names a node
pub walk_meets_nodes : {H : Type 0} {position : H → ℕ} {F : Forest} {d : ℕ} {met : List H} {next : Option H} {v : H} → IsAlongLevel position F d met next → next ≡ Some v → IsNode F (position v)
walk_meets_nodes {position = position} {F = F} {d = d} {met = met} {v = v} h e = (levels_go_on F d (length met) (position v) (element_met h e)).0

-- it is met, and the next node of its depth comes next
pub walk_goes_on : {H : Type 0} {position : H → ℕ} {F : Forest} {d : ℕ} {met all : List H} {next after : Option H} {v : H} → IsAlongLevel position F d met next → next ≡ Some v
    → all ≡ met ++ v ∷ [] → option_map position after ≡ next_of (level F (depth F (position v))) (position v) → IsAlongLevel position F d all after
walk_goes_on {position = position} {F = F} {d = d} {met = met} {all = all} {v = v} h e a n =
    let m = element_met h e in let g = levels_go_on F d (length met) (position v) m in
    let long : length all ≡ length met + 1 = ap (λ (vs : List _). length vs) a ∙ length_push met v in
    record {
      first = ap (map position) a ∙ map-append position met (v ∷ []) ∙ ap (λ (vs : List ℕ). vs ++ position v ∷ []) h.first ∙ sym (take_more (level F d) (length met) 0 (slice_get_within (level F d) (length met) (position v) m) ∙ ap (λ (y : ℕ). take (length met) (level F d) ++ y ∷ []) (get_or_from_slice_get (level F d) (length met) (position v) 0 m)) ∙ ap (λ (k : ℕ). take k (level F d)) (sym long);
      then = n ∙ ap (λ (k : ℕ). next_of (level F k) (position v)) g.1 ∙ g.2 ∙ ap (slice_get (level F d)) (sym long);
    }

-- fewer are still to be met
pub walk_comes_nearer : {H : Type 0} {position : H → ℕ} {F : Forest} {d : ℕ} {met all : List H} {next : Option H} {v : H} → IsAlongLevel position F d met next → next ≡ Some v
    → all ≡ met ++ v ∷ [] → length (level F d) - length all < length (level F d) - length met
walk_comes_nearer {position = position} {F = F} {d = d} {met = met} {all = all} {v = v} h e a = grind (arith, slice_get_within, length_push)

-- where none comes next, all of the level were met
pub walk_ends : {H : Type 0} {position : H → ℕ} {F : Forest} {d : ℕ} {met : List H} {next : Option H} → IsAlongLevel position F d met next → next ≡ None → map position met ≡ level F d
walk_ends {position = position} {F = F} {d = d} {met = met} h e =
    let past = ⊎_elim (λ (i : length met < length (level F d)). let f = sym (slice_get-get_or (level F d) (length met) 0 i) ∙ sym h.then ∙ ap (option_map position) e in absurd (cc)) (λ (i : length (level F d) ≤ length met). i) (cases_lt (length met) (length (level F d))) in
    h.first ∙ take_all (length met) (level F d) past

-- ---- what calls read
module _ (size n : ℕ) where
  pub calls_within :
      IsWithin (search_reads size n) (tree_reads size n)
      × IsWithin (enclose_reads size n) (tree_reads size n)
      × IsWithin (two_searches_reads size n) (tree_reads size n)
      × IsWithin (post_reads size n) (tree_reads size n)
      × IsWithin get_reads (tree_reads size n)
      × IsWithin rank_reads (tree_reads size n)
      × IsWithin (select_reads (superblock_count n)) (tree_reads size n)
  calls_within = grind arith

  pub calls_few : (old new : Reads) → AddsAtMost old new (tree_reads size n)
      → (new.blocks ≤ old.blocks + 4) × (new.nodes ≤ old.nodes + 8 * levels size n) × (new.data_words ≤ old.data_words + (4 * size + 32))
  calls_few old new h = (h.blocks.within, h.nodes.within, h.data_words.within)

  pub searches_few : (old new : Reads) → AddsAtMost old new (search_reads size n)
      → (new.blocks ≤ old.blocks + 2) × (new.nodes ≤ old.nodes + 4 * levels size n) × (new.data_words ≤ old.data_words + (2 * size + 4))
  searches_few old new h = (h.blocks.within, h.nodes.within, h.data_words.within)
