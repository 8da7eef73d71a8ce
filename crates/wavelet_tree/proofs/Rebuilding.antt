-- Trees that are rebuilt from their bits: which elements have them, that there is one such list, and what is stored.
use Rattle.wavelet_tree.proofs.Names.{◌≡◌, ℕ, zero, suc, ◌+◌, ◌-◌, ◌^◌, ◌<◌, ◌≤◌, Bool, true, false, cond, leb, ltb, List, [], ◌∷◌, ◌++◌, map, length, take, get_or, refl, sym, ap, ◌∙◌, subst, arith, inl, inr, count_by, All, cases_eq, cases_lt, lt-ltb, le-ltb, lt-leb, le-leb, leb-false, leb-true, count_by-le-length, get_or_at, get_or_default, get_or-map, length-append, length-map, same_lists, sum_by-append, take-map, take-take, take_all, take_at, count, is_bit, part, Tree, fork, forks, split, balanced, lesser, tree_bits, shift, link, entry, lows, highs, weight, IsFork, Stands, CountsWithin, BitsAt, AreForksOf, HasBitsAt, Rebuilds, RebuildsTree, Node, LEAVES, IsTreeOf, symbols_in, Symbols, HasParts, starts_of, get_or-replicate, length-replicate, replicate, All-append, length-map-range_with_len, range_with_len, length-filter, drop}
use Rattle.wavelet_tree.proofs.Lists.{count_on, count_off, kept_at, kept_inside}
use Rattle.wavelet_tree.proofs.Splits.{Divides, split_divides, only_symbol, low_counts, high_counts, lesser_all, lesser_lows, lesser_highs, lesser_none, lesser_up}
use Rattle.wavelet_tree.proofs.Standing.{weight_fork, stands_kept}
use Rattle.wavelet_tree.proofs.Growing.{balanced_leaf, balanced_fork, begins_append, begins_on, leaf_tree, split_inside, weight_leaf}
use Rattle.wavelet_tree.proofs.Parts.{count_map}
use Rattle.wavelet_tree.proofs.Lesser.{lesser_zero}
use Rattle.wavelet_tree.proofs.Beginning.{counts_all, start_at, tree_made}
use Rattle.wavelet_tree.proofs.Saving.{get_part, length_part, length_tree_bits, part_add, stored_bits, take_add}

-- ---- two lists, and a bit for each element of both

-- a list has the elements of two others, those of the second one at the ones
pub record Merges (m : ℕ) (bits : List Bool) (ls hs xs : List ℕ) : Type 0 where
  pub bits_are : map (λ x. leb m x) xs ≡ bits
  pub lows_are : lows m xs ≡ ls
  pub highs_are : highs m xs ≡ hs

pub merged : (m : ℕ) (bits : List Bool) (ls hs : List ℕ) → All (λ x. x < m) ls → All (λ x. m ≤ x) hs → length bits ≡ length ls + length hs → count_by (is_bit true) bits ≡ length hs
    → (xs : List ℕ) × Merges m bits ls hs xs
merged m [] [] [] below from long ones = ([], record { bits_are = refl; lows_are = refl; highs_are = refl })
merged m [] (l ∷ ls) hs below from long ones = absurd (omega (arith, long))
merged m [] [] (h ∷ hs) below from long ones = absurd (omega (arith, long))
merged m (true ∷ bits) ls [] below from long ones = absurd (omega (arith, ones, count_on (is_bit true) true bits refl))
merged m (true ∷ bits) ls (h ∷ hs) below from long ones =
    let up : m ≤ h = from 0 h (omega arith) in
    let others = merged m bits ls hs below (λ k d inside. from (suc k) d (omega (arith, inside))) (omega (arith, long)) (omega (arith, ones, count_on (is_bit true) true bits refl)) in (
      h ∷ others.0,
      record {
        bits_are = rw (le-leb m h up) (ap (λ (l : List Bool). true ∷ l) others.1.bits_are);
        lows_are = rw (le-ltb h m up) others.1.lows_are;
        highs_are = rw (le-leb m h up) (ap (λ (l : List ℕ). h ∷ l) others.1.highs_are);
      },
    )
merged m (false ∷ bits) [] hs below from long ones = absurd (omega (arith, long, ones, count_off (is_bit true) false bits refl, count_by-le-length (is_bit true) bits))
merged m (false ∷ bits) (l ∷ ls) hs below from long ones =
    let down : l < m = below 0 l (omega arith) in
    let others = merged m bits ls hs (λ k d inside. below (suc k) d (omega (arith, inside))) from (omega (arith, long)) (omega (arith, ones, count_off (is_bit true) false bits refl)) in (
      l ∷ others.0,
      record {
        bits_are = rw (lt-leb m l down) (ap (λ (l : List Bool). false ∷ l) others.1.bits_are);
        lows_are = rw (lt-ltb l m down) (ap (λ (l' : List ℕ). l ∷ l') others.1.lows_are);
        highs_are = rw (lt-leb m l down) others.1.highs_are;
      },
    )

-- there is one such list
pub same_merged : (m : ℕ) (xs ys : List ℕ) → map (λ x. leb m x) xs ≡ map (λ x. leb m x) ys → lows m xs ≡ lows m ys → highs m xs ≡ highs m ys → xs ≡ ys
same_merged m [] [] bits low high = refl
same_merged m [] (y ∷ ys) bits low high = absurd (omega (arith, ap length bits))
same_merged m (x ∷ xs) [] bits low high = absurd (omega (arith, ap length bits))
same_merged m (x ∷ xs) (y ∷ ys) bits low high =
    let head : leb m x ≡ leb m y = cc in
    let rest : map (λ x. leb m x) xs ≡ map (λ x. leb m x) ys = cc in
    elim (cases_lt x m) [
      | inl less ↦
          let other : y < m = leb-false m y (sym head ∙ lt-leb m x less) in
          let low_rest : x ∷ lows m xs ≡ y ∷ lows m ys = rw (lt-ltb x m less, lt-ltb y m other) at low in
          let high_rest : highs m xs ≡ highs m ys = rw (lt-leb m x less, lt-leb m y other) at high in
          let deeper : xs ≡ ys = same_merged m xs ys rest (cc low_rest) high_rest in
          cc (low_rest, deeper)
      | inr more ↦
          let other : m ≤ y = leb-true m y (sym head ∙ le-leb m x more) in
          let low_rest : lows m xs ≡ lows m ys = rw (le-ltb x m more, le-ltb y m other) at low in
          let high_rest : x ∷ highs m xs ≡ y ∷ highs m ys = rw (le-leb m x more, le-leb m y other) at high in
          let deeper : xs ≡ ys = same_merged m xs ys rest low_rest (cc high_rest) in
          cc (high_rest, deeper)
    ]

-- ---- counts

pub counts_length : {starts : List ℕ} {low end : ℕ} (xs : List ℕ) → CountsWithin starts low end xs → get_or starts end 0 ≡ get_or starts low 0 + length xs
counts_length {starts} {low} {end} xs counts = omega (arith, counts.order, counts.counts end (omega (arith, counts.order)) (omega arith), lesser_all xs end (λ k d inside. (counts.elements k d inside).1))

-- both sides are counted, and so are all elements
pub counts_sides : (starts : List ℕ) (low end m : ℕ) (xs : List ℕ) → CountsWithin starts low m (lows m xs) → CountsWithin starts m end (highs m xs) → CountsWithin starts low end xs
counts_sides starts low end m xs left right = record {
  order = omega (arith, left.order, right.order);
  inside = right.inside;
  short = right.short;
  elements = λ k d inside. elim (cases_lt (get_or xs k d) m) [
    | inl less ↦
        let passes = lt-ltb (get_or xs k d) m less in
        let element = left.elements _ d (kept_inside (λ x. ltb x m) xs k d inside passes) in
        let is = kept_at (λ x. ltb x m) xs k d inside passes in
        (omega (arith, element.0, is), omega (arith, less, right.order))
    | inr more ↦
        let passes = le-leb m (get_or xs k d) more in
        let element = right.elements _ d (kept_inside (λ x. leb m x) xs k d inside passes) in
        let is = kept_at (λ x. leb m x) xs k d inside passes in
        (omega (arith, more, left.order), omega (arith, element.1, is))
  ];
  counts = λ c from within. elim (cases_lt c m) [
    | inl less ↦ left.counts c from (omega (arith, less)) ∙ ap (λ n. get_or starts low 0 + n) (lesser_lows m c xs (omega (arith, less)))
    | inr more ↦
        omega (arith, right.counts c more within, left.counts m (omega (arith, left.order)) (omega arith), lesser_lows m m xs (omega arith), lesser_highs m c xs more)
  ];
}

-- the ones up to a position, and those of the bits from there on
pub count_part : (bits : List Bool) (start n : ℕ) → count true bits (start + n) ≡ count true bits start + count_by (is_bit true) (part bits start n)
unfolding count
count_part bits start n =
    ap (λ (l : List Bool). count_by (is_bit true) l) (take_add start n bits) ∙ sum_by-append (λ b. cond (is_bit true b) 1 0) (take start bits) (part bits start n)

-- ---- the bits of a fork

append_same : {X : Type 0} (a c b d : List X) → length a ≡ length c → a ++ b ≡ c ++ d → (a ≡ c) × (b ≡ d)
append_same [] [] b d long same = (refl, same)
append_same [] (y ∷ c) b d long same = absurd (omega (arith, long))
append_same (x ∷ a) [] b d long same = absurd (omega (arith, long))
append_same (x ∷ a) (y ∷ c) b d long same =
    let head : x ≡ y = cc in
    let rest : a ++ b ≡ c ++ d = cc in
    let deeper = append_same a c b d (omega (arith, long)) rest in
    let first : a ≡ c = deeper.0 in
    (cc (head, first), deeper.1)

pub record ForkBits (m : ℕ) (l r : Tree) (xs : List ℕ) (bits : List Bool) (start : ℕ) : Type 0 where
  pub within : start + length xs < length bits
  pub own : part bits start (length xs) ≡ map (λ x. leb m x) xs
  pub left : BitsAt l (lows m xs) bits (start + length xs)
  pub right : BitsAt r (highs m xs) bits (start + length xs + weight l (lows m xs))

pub fork_bits : {m : ℕ} {l r : Tree} {xs : List ℕ} {bits : List Bool} {start : ℕ} → BitsAt (fork m l r) xs bits start → ForkBits m l r xs bits start
unfolding tree_bits
fork_bits {m} {l} {r} {xs} {bits} {start} is =
    let n : ℕ = length xs in
    let a : ℕ = weight l (lows m xs) in
    let b : ℕ = weight r (highs m xs) in
    let all : start + (n + a + b) < length bits = omega (arith, is.within, weight_fork m l r xs) in
    let parts : part bits start n ++ (part bits (start + n) a ++ part bits (start + n + a) b) ≡ map (λ x. leb m x) xs ++ (tree_bits l (lows m xs) ++ tree_bits r (highs m xs)) =
    ap (λ (p : List Bool). part bits start n ++ p) (sym (part_add bits (start + n) a b))
    ∙ sym (part_add bits start n (a + b))
    ∙ ap (λ k. part bits start k) (omega (arith, weight_fork m l r xs))
    ∙ is.are in
    let first = append_same _ _ _ _ (length_part bits start n (omega (arith, all)) ∙ sym (length-map xs (λ x. leb m x))) parts in
    let rest = append_same _ _ _ _ (length_part bits (start + n) a (omega (arith, all)) ∙ sym (length_tree_bits l (lows m xs))) first.1 in
    record {
      within = omega (arith, all);
      own = first.0;
      left = record { within = omega (arith, all); are = rest.0 };
      right = record { within = omega (arith, all); are = rest.1 };
    }

-- ---- one list has these counts and bits

same_leaf : (starts : List ℕ) (low end m : ℕ) (xs ys : List ℕ) → CountsWithin starts low end xs → CountsWithin starts low end ys → Divides starts low end m → get_or starts m 0 ≡ get_or starts end 0 → xs ≡ ys
same_leaf starts low end m xs ys one two divides same =
    let all = only_symbol starts low end m xs one divides same in
    let others = only_symbol starts low end m ys two divides same in
    let long : length xs ≡ length ys = omega (arith, all.1, others.1) in
    same_lists xs ys long (λ k d inside. all.0 k d inside ∙ sym (others.0 k d (omega (arith, inside, long))))

pub same_elements : (n : ℕ) (starts : List ℕ) (low end : ℕ) (bits : List Bool) (start : ℕ) (xs ys : List ℕ) → end ≤ low + n → CountsWithin starts low end xs → CountsWithin starts low end ys
    → BitsAt (balanced starts n low end) xs bits start → BitsAt (balanced starts n low end) ys bits start → xs ≡ ys
same_elements zero starts low end bits start xs ys enough one two first second = absurd (omega (arith, enough, one.order))
same_elements (suc n) starts low end bits start xs ys enough one two first second =
    let m : ℕ = split starts low end in
    let divides = split_divides starts low end xs one in
    elim (cases_eq (get_or starts m 0) (get_or starts end 0)) [
      | inl same ↦ same_leaf starts low end m xs ys one two divides same
      | inr other ↦
          let past : m < end = split_inside m end starts divides.within other in
          let tree = balanced_fork starts n low end m refl other in
          let a = fork_bits (subst (λ (t : Tree). BitsAt t xs bits start) tree first) in
          let b = fork_bits (subst (λ (t : Tree). BitsAt t ys bits start) tree second) in
          let long : length ys ≡ length xs = omega (arith, counts_length xs one, counts_length ys two) in
          let low_one = low_counts starts low end m xs one divides in
          let low_two = low_counts starts low end m ys two divides in
          let left : lows m xs ≡ lows m ys =
          same_elements n starts low m bits (start + length xs) (lows m xs) (lows m ys) (omega (arith, enough, past)) low_one low_two a.left (subst (λ k. BitsAt (balanced starts n low m) (lows m ys) bits (start + k)) long b.left) in
          let high_one = high_counts starts low end m xs one divides past in
          let high_two = high_counts starts low end m ys two divides past in
          let position : start + length ys + weight (balanced starts n low m) (lows m ys) ≡ start + length xs + weight (balanced starts n low m) (lows m xs) =
          omega (arith, long, ap (weight (balanced starts n low m)) left) in
          let right : highs m xs ≡ highs m ys =
          same_elements n starts m end bits _ (highs m xs) (highs m ys) (omega (arith, enough, divides.from)) high_one high_two a.right (subst (λ k. BitsAt (balanced starts n m end) (highs m ys) bits k) position b.right) in
          same_merged m xs ys (sym a.own ∙ ap (λ k. part bits start k) (sym long) ∙ b.own) left right
    ]

-- ---- what is rebuilt

pub rebuilt_bits : {t : Tree} {starts xs : List ℕ} {nodes more_nodes : List Node} {bits : List Bool} {start next to from : ℕ} → RebuildsTree t starts xs nodes more_nodes bits start next to from → next < length bits → BitsAt t xs bits start
rebuilt_bits {t} {starts} {xs} {more_nodes = more_nodes} {bits = bits} {start = start} made within = record {
  within = omega (arith, within, made.next_is);
  are = stored_bits t starts more_nodes bits (length bits - 1) _ start xs made.stands (omega arith);
}

pub rebuilt_leaf : (starts : List ℕ) (low end m : ℕ) (xs : List ℕ) (nodes : List Node) (bits : List Bool) (start : ℕ) → CountsWithin starts low end xs → m ≡ split starts low end → get_or starts m 0 ≡ get_or starts end 0
    → start < length bits → Rebuilds starts low end nodes nodes bits start start (LEAVES + (m - 1)) (get_or starts (m - 1) 0)
rebuilt_leaf starts low end m xs nodes bits start counts is same within = record {
  xs = xs;
  counts = counts;
  within = within;
  kept_nodes = take_all (length nodes) nodes (omega arith);
  tree = λ n enough. at n enough;
}
  where
    at : (n : ℕ) → end ≤ low + n → RebuildsTree (balanced starts n low end) starts xs nodes nodes bits start start (LEAVES + (m - 1)) (get_or starts (m - 1) 0)
    at zero enough = absurd (omega (arith, enough, counts.order))
    at (suc n) enough =
        let grown = leaf_tree starts low end m xs nodes bits counts is same in
        subst (λ (t : Tree). RebuildsTree t starts xs nodes nodes bits start start (LEAVES + (m - 1)) (get_or starts (m - 1) 0)) (sym (balanced_leaf starts n low end m is same)) (record {
          nodes_are = grown.nodes_are;
          next_is = omega (arith, weight_leaf (m - 1) xs);
          stands = grown.stands;
          link_is = refl;
          entry_is = refl;
        })

-- the elements of both sides, by the bits of the fork
pub record Joins (m : ℕ) (bits : List Bool) (start middle : ℕ) (ls hs : List ℕ) : Type 0 where
  pub xs : List ℕ
  pub merges : Merges m (part bits start (length xs)) ls hs xs
  pub middle_is : middle ≡ start + length xs

pub joined : (starts : List ℕ) (low end m : ℕ) (bits : List Bool) (start middle elements high : ℕ) (ls hs : List ℕ) → CountsWithin starts low m ls → CountsWithin starts m end hs
    → elements ≡ get_or starts end 0 - get_or starts low 0 → high ≡ get_or starts end 0 - get_or starts m 0 → middle ≡ start + elements → middle < length bits → count true bits middle ≡ count true bits start + high
    → Joins m bits start middle ls hs
joined starts low end m bits start middle elements high ls hs left right elements_are high_are middle_is inside ones =
    let lower = counts_length ls left in
    let upper = counts_length hs right in
    let own : List Bool = part bits start elements in
    let long : length own ≡ elements = length_part bits start elements (omega (arith, inside, middle_is)) in
    let counted = ap (λ n. count true bits n) middle_is ∙ count_part bits start elements in
    let made = merged m own ls hs (λ k d inside. (left.elements k d inside).1) (λ k d inside. (right.elements k d inside).0) (omega (arith, long, elements_are, lower, upper)) (omega (arith, counted, ones, high_are, upper)) in
    let many : elements ≡ length made.0 = omega (arith, long, ap length made.1.bits_are, length-map made.0 (λ x. leb m x)) in
    record {
      xs = made.0;
      merges = subst (λ n. Merges m (part bits start n) ls hs made.0) many made.1;
      middle_is = middle_is ∙ ap (λ n. start + n) many;
    }

module _ (starts : List ℕ) (low end m : ℕ) (xs : List ℕ) (nodes nodes2 nodes3 nodes4 : List Node) (bits : List Bool) (start middle next2 next3 ones to2 to3 from2 from3 : ℕ) (node : Node)
    (m_is : m ≡ split starts low end) (other : get_or starts m 0 ≡ get_or starts end 0 → ⊥)
    (left : Rebuilds starts low m nodes nodes2 bits middle next2 to2 from2) (right : Rebuilds starts m end nodes2 nodes3 bits next2 next3 to3 from3)
    (merges : Merges m (part bits start (length xs)) left.xs right.xs xs) (middle_is : middle ≡ start + length xs) (inside : middle < length bits) (ones_are : ones ≡ count true bits start)
    (low_is : node.low ≡ shift from2 (start - ones)) (high_is : node.high ≡ shift from3 ones) (low_link_is : node.low_link ≡ to2) (high_link_is : node.high_link ≡ to3) (split_is : node.split ≡ m)
    (pushed : nodes4 ≡ nodes3 ++ node ∷ []) (few : length nodes3 < LEAVES) where
  counted : CountsWithin starts low end xs
  counted =
      counts_sides starts low end m xs (subst (λ (l : List ℕ). CountsWithin starts low m l) (sym merges.lows_are) left.counts) (subst (λ (l : List ℕ). CountsWithin starts m end l) (sym merges.highs_are) right.counts)

  more : length nodes4 ≡ length nodes3 + 1
  more = rw pushed (length-append nodes3 (node ∷ []))

  last_begins : take (length nodes3) nodes4 ≡ nodes3
  last_begins = rw pushed (begins_append nodes3 (node ∷ []))

  own_first : (i : ℕ) → i ≤ length xs → part bits start i ≡ map (λ x. leb m x) (take i xs)
  own_first i within = sym (take-take i (length xs) (drop start bits) within) ∙ ap (λ (l : List Bool). take i l) (sym merges.bits_are) ∙ take-map (λ x. leb m x) i xs

  fork_is : (l r : Tree) → RebuildsTree l starts (lows m xs) nodes nodes2 bits middle next2 to2 from2 → RebuildsTree r starts (highs m xs) nodes2 nodes3 bits next2 next3 to3 from3
      → IsFork starts nodes4 bits (length bits - 1) m l r (length nodes) (length nodes + forks l + forks r) start xs
  fork_is l r a b =
      let own : length nodes3 ≡ length nodes + forks l + forks r = omega (arith, a.nodes_are, b.nodes_are) in
      let here : (d : Node) → get_or nodes4 (length nodes + forks l + forks r) d ≡ node = λ d. ap (λ (all : List Node). get_or all (length nodes + forks l + forks r) d) pushed ∙ get_or_at nodes3 node [] d (length nodes + forks l + forks r) own in
      let next : next2 ≡ start + length xs + weight l (lows m xs) = omega (arith, a.next_is, middle_is) in
      record {
        inside = omega (arith, own, more);
        few = omega (arith, own, few);
        within = omega (arith, inside, middle_is);
        split_is = λ d. ap (λ (n : Node). n.split) (here d) ∙ split_is;
        low_link = λ d. ap (λ (n : Node). n.low_link) (here d) ∙ low_link_is ∙ a.link_is;
        high_link = λ d. ap (λ (n : Node). n.high_link) (here d) ∙ high_link_is ∙ b.link_is ∙ ap (λ n. link r n) a.nodes_are;
        low = λ d.
            ap (λ (n : Node). n.low) (here d) ∙ low_is ∙ ap (λ n. shift n (start - ones)) (a.entry_is ∙ ap (λ n. entry l starts n) middle_is)
            ∙ ap (λ n. shift (entry l starts (start + length xs)) (start - n)) ones_are;
        high = λ d.
            ap (λ (n : Node). n.high) (here d) ∙ high_is ∙ ap (λ n. shift n ones) (b.entry_is ∙ ap (λ n. entry r starts n) next)
            ∙ ap (λ n. shift (entry r starts (start + length xs + weight l (lows m xs))) n) ones_are;
        ones = λ i within. count_part bits start i ∙ ap (λ n. count true bits start + n) (ap (λ (l : List Bool). count_by (is_bit true) l) (own_first i within) ∙ count_map (λ x. leb m x) (take i xs));
        bit = λ i within.
            sym (get_part bits start (length xs) i false within) ∙ ap (λ (l : List Bool). get_or l i false) (sym merges.bits_are) ∙ get_or-map (λ x. leb m x) xs i 0 false within;
      }

  fork_tree : (l r : Tree) → RebuildsTree l starts (lows m xs) nodes nodes2 bits middle next2 to2 from2 → RebuildsTree r starts (highs m xs) nodes2 nodes3 bits next2 next3 to3 from3
      → RebuildsTree (fork m l r) starts xs nodes nodes4 bits start next3 (length nodes3) start
  unfolding forks
  fork_tree l r a b =
      let used : ℕ = length bits - 1 in
      let next : next2 ≡ start + length xs + weight l (lows m xs) = omega (arith, a.next_is, middle_is) in
      let same = take_all (length bits) bits (omega arith) in
      let low_stands = stands_kept starts nodes2 nodes4 bits bits used used (begins_on nodes2 nodes3 nodes4 right.kept_nodes last_begins) same (omega arith) (omega arith) l (length nodes) middle (lows m xs) a.stands in
      let high_stands = stands_kept starts nodes3 nodes4 bits bits used used last_begins same (omega arith) (omega arith) r (length nodes2) next2 (highs m xs) b.stands in
      record {
        nodes_are = omega (arith, more, a.nodes_are, b.nodes_are);
        next_is = omega (arith, b.next_is, next, weight_fork m l r xs);
        stands = (
          fork_is l r a b,
          subst (λ n. Stands l starts nodes4 bits used (length nodes) n (lows m xs)) middle_is low_stands,
          subst (λ n. Stands r starts nodes4 bits used (length nodes + forks l) n (highs m xs)) next (subst (λ n. Stands r starts nodes4 bits used n next2 (highs m xs)) a.nodes_are high_stands),
        );
        link_is = omega (arith, a.nodes_are, b.nodes_are);
        entry_is = refl;
      }

  rebuilt_at : (n : ℕ) → end ≤ low + n → RebuildsTree (balanced starts n low end) starts xs nodes nodes4 bits start next3 (length nodes3) start
  rebuilt_at zero enough = absurd (omega (arith, enough, counted.order))
  rebuilt_at (suc n) enough =
      let divides : Divides starts low end m = rw m_is (split_divides starts low end xs counted) in
      let less : m ≤ low + n = omega (arith, enough, split_inside m end starts divides.within other) in
      let a = subst (λ (l : List ℕ). RebuildsTree (balanced starts n low m) starts l nodes nodes2 bits middle next2 to2 from2) (sym merges.lows_are) (left.tree n less) in
      let b = subst (λ (l : List ℕ). RebuildsTree (balanced starts n m end) starts l nodes2 nodes3 bits next2 next3 to3 from3) (sym merges.highs_are) (right.tree n (omega (arith, enough, divides.from))) in
      subst (λ (t : Tree). RebuildsTree t starts xs nodes nodes4 bits start next3 (length nodes3) start) (sym (balanced_fork starts n low end m m_is other)) (fork_tree (balanced starts n low m) (balanced starts n m end) a b)

  pub rebuilt_fork : Rebuilds starts low end nodes nodes4 bits start next3 (length nodes3) start
  rebuilt_fork = record {
    xs = xs;
    counts = counted;
    within = right.within;
    kept_nodes = begins_on nodes nodes2 nodes4 left.kept_nodes (begins_on nodes2 nodes3 nodes4 right.kept_nodes last_begins);
    tree = rebuilt_at;
  }

-- ---- bits that are refused

pub record SideBits (starts : List ℕ) (low end m : ℕ) (xs : List ℕ) (bits : List Bool) (start : ℕ) : Type 0 where
  pub steps : ℕ
  pub low_enough : m ≤ low + steps
  pub high_enough : end ≤ m + steps
  pub divides : Divides starts low end m
  pub past : m < end
  pub fork : ForkBits m (balanced starts steps low m) (balanced starts steps m end) xs bits start

pub side_bits : (starts : List ℕ) (low end m : ℕ) (xs : List ℕ) (bits : List Bool) (start : ℕ) → CountsWithin starts low end xs → m ≡ split starts low end → (get_or starts m 0 ≡ get_or starts end 0 → ⊥)
    → HasBitsAt starts low end xs bits start → SideBits starts low end m xs bits start
side_bits starts low end m xs bits start counts is other has = at has.steps has.enough has.tree
  where
    at : (n : ℕ) → end ≤ low + n → BitsAt (balanced starts n low end) xs bits start → SideBits starts low end m xs bits start
    at zero enough found = absurd (omega (arith, enough, counts.order))
    at (suc n) enough found =
        let divides : Divides starts low end m = rw is (split_divides starts low end xs counts) in
        let past : m < end = split_inside m end starts divides.within other in
        record {
          steps = n;
          low_enough = omega (arith, enough, past);
          high_enough = omega (arith, enough, divides.from);
          divides = divides;
          past = past;
          fork = fork_bits (subst (λ (t : Tree). BitsAt t xs bits start) (balanced_fork starts n low end m is other) found);
        }

-- the fork's bits are there, with as many ones as elements on the right
pub fork_fits : (starts : List ℕ) (low end m : ℕ) (xs : List ℕ) (bits : List Bool) (start elements high : ℕ) → CountsWithin starts low end xs → SideBits starts low end m xs bits start
    → elements ≡ get_or starts end 0 - get_or starts low 0 → high ≡ get_or starts end 0 - get_or starts m 0 → (start + elements < length bits) × (count true bits (start + elements) ≡ count true bits start + high)
fork_fits starts low end m xs bits start elements high counts sides elements_are high_are =
    let many : elements ≡ length xs = omega (arith, elements_are, counts_length xs counts) in
    let right = counts_length (highs m xs) (high_counts starts low end m xs counts sides.divides sides.past) in
    let ones = ap (λ (l : List Bool). count_by (is_bit true) l) sides.fork.own ∙ count_map (λ x. leb m x) xs in (
      omega (arith, many, sides.fork.within),
      ap (λ n. count true bits (start + n)) many ∙ count_part bits start (length xs) ∙ omega (arith, ones, length-filter (λ x. leb m x) xs, right, high_are),
    )

pub left_bits : (starts : List ℕ) (low end m : ℕ) (xs : List ℕ) (bits : List Bool) (start middle elements : ℕ) → CountsWithin starts low end xs → SideBits starts low end m xs bits start
    → elements ≡ get_or starts end 0 - get_or starts low 0 → middle ≡ start + elements → HasBitsAt starts low m (lows m xs) bits middle
left_bits starts low end m xs bits start middle elements counts sides elements_are middle_is =
    let position : start + length xs ≡ middle = omega (arith, middle_is, elements_are, counts_length xs counts) in
    record { steps = sides.steps; enough = sides.low_enough; tree = subst (λ n. BitsAt (balanced starts sides.steps low m) (lows m xs) bits n) position sides.fork.left }

pub right_bits : (starts : List ℕ) (low end m : ℕ) (xs : List ℕ) (bits : List Bool) (start middle elements : ℕ) {nodes more_nodes : List Node} {next to from : ℕ} → CountsWithin starts low end xs → SideBits starts low end m xs bits start
    → elements ≡ get_or starts end 0 - get_or starts low 0 → middle ≡ start + elements → Rebuilds starts low m nodes more_nodes bits middle next to from → HasBitsAt starts m end (highs m xs) bits next
right_bits starts low end m xs bits start middle elements {next = next} counts sides elements_are middle_is left =
    let position : start + length xs ≡ middle = omega (arith, middle_is, elements_are, counts_length xs counts) in
    let t : Tree = balanced starts sides.steps low m in
    let made = left.tree sides.steps sides.low_enough in
    let same : left.xs ≡ lows m xs =
    same_elements sides.steps starts low m bits middle left.xs (lows m xs) sides.low_enough left.counts (low_counts starts low end m xs counts sides.divides) (rebuilt_bits made left.within)
    (subst (λ n. BitsAt t (lows m xs) bits n) position sides.fork.left) in
    let there : start + length xs + weight t (lows m xs) ≡ next = omega (arith, made.next_is, position, ap (weight t) same) in
    record { steps = sides.steps; enough = sides.high_enough; tree = subst (λ n. BitsAt (balanced starts sides.steps m end) (highs m xs) bits n) there sides.fork.right }

-- ---- a whole tree

root_bits : (t : Tree) (xs : List ℕ) (bits : List Bool) → tree_bits t xs ≡ bits → BitsAt t xs (bits ++ false ∷ []) 0
root_bits t xs bits is =
    let many : weight t xs ≡ length bits = sym (length_tree_bits t xs) ∙ ap length is in
    record { within = omega (arith, many, length-append bits (false ∷ [])); are = take_at bits (false ∷ []) (weight t xs) (sym many) ∙ sym is }

pub whole_bits : (starts : List ℕ) (limit : ℕ) (xs : List ℕ) (bits : List Bool) → tree_bits (balanced starts limit 0 limit) xs ≡ bits → HasBitsAt starts 0 limit xs (bits ++ false ∷ []) 0
whole_bits starts limit xs bits is = record { steps = limit; enough = omega arith; tree = root_bits (balanced starts limit 0 limit) xs bits is }

-- one list of elements has these counts and bits
pub same_whole : (starts : List ℕ) (limit : ℕ) (xs ys : List ℕ) (bits : List Bool) → CountsWithin starts 0 limit xs → CountsWithin starts 0 limit ys → tree_bits (balanced starts limit 0 limit) xs ≡ bits → tree_bits (balanced starts limit 0 limit) ys ≡ bits → xs ≡ ys
same_whole starts limit xs ys bits one two first second =
    same_elements limit starts 0 limit (bits ++ false ∷ []) 0 xs ys (omega arith) one two (root_bits _ xs bits first) (root_bits _ ys bits second)

-- the bits are all used if they are those of a tree
pub whole_used : (starts : List ℕ) (limit : ℕ) (xs : List ℕ) {nodes more_nodes : List Node} (bits : List Bool) {next to from : ℕ} → Rebuilds starts 0 limit nodes more_nodes (bits ++ false ∷ []) 0 next to from
    → CountsWithin starts 0 limit xs → tree_bits (balanced starts limit 0 limit) xs ≡ bits → next ≡ length bits
whole_used starts limit xs bits made counts is =
    let t : Tree = balanced starts limit 0 limit in
    let tree = made.tree limit (omega arith) in
    let same : made.xs ≡ xs = same_elements limit starts 0 limit (bits ++ false ∷ []) 0 made.xs xs (omega arith) made.counts counts (rebuilt_bits tree made.within) (root_bits t xs bits is) in
    omega (arith, tree.next_is, ap (weight t) same, length_tree_bits t xs, ap length is)

pub forks_rebuilt : (starts : List ℕ) (limit : ℕ) (nodes0 nodes : List Node) (bits ended : List Bool) (next to from : ℕ) → Rebuilds starts 0 limit nodes0 nodes ended 0 next to from
    → nodes0 ≡ [] → ended ≡ bits ++ false ∷ [] → length ended < 2 ^ 64 → next ≡ length bits → AreForksOf starts limit bits nodes ended to
forks_rebuilt starts limit nodes0 nodes bits ended next to from made no_nodes is fits all =
    let t : Tree = balanced starts limit 0 limit in
    let tree = made.tree limit (omega arith) in
    let none : length nodes0 ≡ 0 = ap length no_nodes in
    let many : length ended ≡ length bits + 1 = ap length is ∙ length-append bits (false ∷ []) in
    let used : length ended - 1 ≡ weight t made.xs = omega (arith, many, all, tree.next_is) in
    let stands : Stands t starts nodes ended (weight t made.xs) 0 0 made.xs =
    subst (λ n. Stands t starts nodes ended (weight t made.xs) n 0 made.xs) none (subst (λ n. Stands t starts nodes ended n (length nodes0) 0 made.xs) used tree.stands) in
    let begins : take (weight t made.xs) ended ≡ bits =
    ap (λ (l : List Bool). take (weight t made.xs) l) is ∙ take_at bits (false ∷ []) (weight t made.xs) (omega (arith, all, tree.next_is)) in
    record {
      xs = made.xs;
      counts = made.counts;
      bits_are = sym (rebuilt_bits tree made.within).are ∙ begins;
      forks = record {
        nodes_are = omega (arith, tree.nodes_are, none);
        bits_are = omega (arith, many, all, tree.next_is);
        ended = ap (λ (l : List Bool). get_or l (weight t made.xs) true) is ∙ get_or_at bits false [] true (weight t made.xs) (omega (arith, all, tree.next_is));
        fits = fits;
        stands = stands;
        root_is = tree.link_is ∙ ap (λ n. link t n) none;
      };
    }

-- ---- numbers of lesser elements

-- elements for numbers that ascend from zero
record Counted (starts : List ℕ) (n : ℕ) (xs : List ℕ) : Type 0 where
  pub below : All (λ x. x < n) xs
  pub counts : (c : ℕ) → c ≤ n → get_or starts c 0 ≡ lesser xs c

counted_elements : (starts : List ℕ) (n : ℕ) → get_or starts 0 0 ≡ 0 → ((k : ℕ) → k < n → get_or starts k 0 ≤ get_or starts (k + 1) 0) → (xs : List ℕ) × Counted starts n xs
counted_elements starts zero first up = (
  [],
  record {
    below = λ k d inside. absurd (omega (arith, inside));
    counts = λ c within. let none : c ≡ 0 = omega (arith, within) in rw none (first ∙ sym (lesser_zero []));
  },
)
counted_elements starts (suc n) first up =
    let before = counted_elements starts n first (λ k less. up k (omega (arith, less))) in
    let xs : List ℕ = before.0 in
    let many : ℕ = get_or starts (n + 1) 0 - get_or starts n 0 in
    let ys : List ℕ = replicate many n in
    let are : All (λ x. x ≡ n) ys = λ k d inside. get_or-replicate many k n d (omega (arith, inside, length-replicate many n)) in
    let step = up n (omega arith) in
    let apart : (c : ℕ) → lesser (xs ++ ys) c ≡ lesser xs c + lesser ys c = λ c. sum_by-append (λ x. cond (ltb x c) 1 0) xs ys in (
      xs ++ ys,
      record {
        below = All-append (λ x. x < suc n) xs ys (λ k d inside. omega (arith, before.1.below k d inside)) (λ k d inside. omega (arith, are k d inside));
        counts = λ c within. elim (cases_lt n c) [
          | inl last ↦
              let here : c ≡ n + 1 = omega (arith, last, within) in
              let old : lesser xs (n + 1) ≡ length xs = lesser_all xs (n + 1) (λ k d inside. omega (arith, before.1.below k d inside)) in
              let new : lesser ys (n + 1) ≡ length ys = lesser_all ys (n + 1) (λ k d inside. omega (arith, are k d inside)) in
              rw here (omega (arith, apart (n + 1), old, new, length-replicate many n, step, before.1.counts n (omega arith), lesser_all xs n before.1.below))
          | inr earlier ↦ omega (arith, apart c, before.1.counts c earlier, lesser_none ys c (λ k d inside. omega (arith, are k d inside, earlier)))
        ];
      },
    )

pub starts_counted : (starts : List ℕ) (limit : ℕ) → 0 < limit → length starts ≡ limit + 1 → get_or starts 0 0 ≡ 0 → get_or starts limit 0 ≤ 9223372036854775807
    → ((k : ℕ) → k + 1 < length starts → get_or starts k 0 ≤ get_or starts (k + 1) 0) → (xs : List ℕ) × CountsWithin starts 0 limit xs
starts_counted starts limit some long first few up =
    let made = counted_elements starts limit first (λ k less. up k (omega (arith, less, long))) in
    let xs : List ℕ = made.0 in (
      xs,
      record {
        order = some;
        inside = omega (arith, long);
        short = λ k d inside.
            omega (arith, get_or_default starts k d 0 inside, made.1.counts k (omega (arith, inside, long)), made.1.counts limit (omega arith), lesser_up xs k limit (omega (arith, inside, long)), few);
        elements = λ k d inside. (omega arith, made.1.below k d inside);
        counts = λ c from within. omega (arith, first, made.1.counts c within);
      },
    )

-- the starts of a list of symbols
pub record StartsFit (starts : List ℕ) (width : ℕ) : Type 0 where
  pub narrow : width ≤ 16
  pub long : length starts ≡ 2 ^ width + 1
  pub first : get_or starts 0 0 ≡ 0
  pub few : get_or starts (2 ^ width) 0 ≤ 9223372036854775807
  pub up : (k : ℕ) → k + 1 < length starts → get_or starts k 0 ≤ get_or starts (k + 1) 0

starts_at : (symbols : Symbols) (starts : List ℕ) (bits : List Bool) → HasParts symbols starts bits → (length starts ≡ 2 ^ symbols.width + 1) × ((c : ℕ) → c < length starts → get_or starts c 0 ≡ lesser symbols.items c)
starts_at symbols starts bits has =
    let long : length starts ≡ 2 ^ symbols.width + 1 = ap length (sym has.starts_are) ∙ length-map-range_with_len (lesser symbols.items) 0 (2 ^ symbols.width + 1) in
    (long, λ c inside. ap (λ (l : List ℕ). get_or l c 0) (sym has.starts_are) ∙ start_at symbols c (omega (arith, inside, long)))

pub starts_fit : (symbols : Symbols) (starts : List ℕ) (bits : List Bool) (width : ℕ) → symbols.width ≡ width → HasParts symbols starts bits → StartsFit starts width
starts_fit symbols starts bits width same has =
    let at = starts_at symbols starts bits has in
    let limit : ℕ = 2 ^ symbols.width in
    subst (λ n. StartsFit starts n) same (record {
      narrow = has.narrow;
      long = at.0;
      first = at.1 0 (omega (arith, at.0)) ∙ lesser_zero symbols.items;
      few = omega (arith, at.1 limit (omega (arith, at.0)), lesser_all symbols.items limit has.small, has.short);
      up = λ k inside. omega (arith, at.1 k (omega (arith, inside)), at.1 (k + 1) inside, lesser_up symbols.items k (k + 1) (omega arith));
    })

-- a list of symbols has these counts, and the bits of its tree
pub parts_whole : (symbols : Symbols) (starts : List ℕ) (bits : List Bool) (width limit : ℕ) → symbols.width ≡ width → limit ≡ 2 ^ width → 0 < limit → HasParts symbols starts bits
    → CountsWithin starts 0 limit symbols.items × (tree_bits (balanced starts limit 0 limit) symbols.items ≡ bits)
parts_whole symbols starts bits width limit same limit_is some has =
    let at = starts_at symbols starts bits has in
    let power : limit ≡ 2 ^ symbols.width = limit_is ∙ ap (λ n. 2 ^ n) (sym same) in
    let small : All (λ x. x < limit) symbols.items = λ k d inside. rw power (has.small k d inside) in (
      (counts_all limit symbols.items starts some small (omega (arith, has.short)) (omega (arith, at.0, power)) at.1).1,
      ap (λ n. tree_bits (balanced starts n 0 n) symbols.items) power ∙ ap (λ (l : List ℕ). tree_bits (balanced l (2 ^ symbols.width) 0 (2 ^ symbols.width)) symbols.items) (sym has.starts_are) ∙ has.bits_are,
    )

-- a tree is made of parts
pub record Loads (width len : ℕ) (starts : List ℕ) (nodes : List Node) (bits ended : List Bool) (root : ℕ) (xs : List ℕ) : Type 0 where
  pub tree : IsTreeOf (record { width = width; items = xs }) starts nodes ended root width len
  pub items : symbols_in nodes ended root len ≡ xs
  pub parts : HasParts (record { width = width; items = xs }) starts bits

pub loaded : (width limit len : ℕ) (starts : List ℕ) (nodes : List Node) (bits ended : List Bool) (root : ℕ) → limit ≡ 2 ^ width → width ≤ 16 → length starts ≡ 2 ^ width + 1 → get_or starts 0 0 ≡ 0 → len ≡ get_or starts limit 0
    → (made : AreForksOf starts limit bits nodes ended root) → Loads width len starts nodes bits ended root made.xs
loaded width limit len starts nodes bits ended root limit_is narrow long first len_is made =
    let xs : List ℕ = made.xs in
    let symbols : Symbols = record { width = width; items = xs } in
    let counts = made.counts in
    let last : len ≡ length xs = omega (arith, len_is, counts_length xs counts, first) in
    let short : length xs < 2 ^ 63 = omega (arith, last, len_is, counts.short limit 0 counts.inside) in
    let below : All (λ x. x < limit) xs = λ k d inside. (counts.elements k d inside).1 in
    let small : All (λ x. x < 2 ^ width) xs = subst (λ n. All (λ x. x < n) xs) limit_is below in
    let starts_are : starts ≡ map (lesser xs) (range_with_len 0 (limit + 1)) =
    (counts_all limit xs starts counts.order below (omega (arith, short)) (omega (arith, long, limit_is)) (λ c inside. omega (arith, first, counts.counts c (omega arith) (omega (arith, inside, long, limit_is))))).0 in
    let same : starts ≡ starts_of symbols = starts_are ∙ ap (λ n. map (lesser xs) (range_with_len 0 (n + 1))) limit_is in
    let tree = tree_made width limit len xs starts nodes ended root limit_is narrow small (sym last) (omega (arith, last, short)) starts_are made.forks in
    record {
      tree = tree.0;
      items = tree.1;
      parts = record {
        narrow = narrow;
        small = small;
        short = short;
        starts_are = sym same;
        bits_are = ap (λ (l : List ℕ). tree_bits (balanced l (2 ^ width) 0 (2 ^ width)) xs) (sym same) ∙ ap (λ n. tree_bits (balanced starts n 0 n) xs) (sym limit_is) ∙ made.bits_are;
      };
    }

-- one list of symbols has these parts
pub same_symbols : (width limit : ℕ) (starts : List ℕ) (bits : List Bool) (one two : Symbols) → limit ≡ 2 ^ width → 0 < limit → one.width ≡ width → two.width ≡ width → HasParts one starts bits → HasParts two starts bits → one ≡ two
same_symbols width limit starts bits one two limit_is some first second has also =
    let a = parts_whole one starts bits width limit first limit_is some has in
    let b = parts_whole two starts bits width limit second limit_is some also in
    let items : one.items ≡ two.items = same_whole starts limit one.items two.items bits a.0 b.0 a.1 b.1 in
    let pair : ℕ → List ℕ → Symbols = λ w l. record { width = w; items = l } in
    ap (λ w. pair w one.items) (first ∙ sym second) ∙ ap (λ l. pair two.width l) items
