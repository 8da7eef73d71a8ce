-- A tree that is appended: a leaf, and a fork after both subtrees.
use Rattle.wavelet_tree.proofs.Names.{◌≡◌, ℕ, zero, suc, ◌+◌, ◌-◌, ◌^◌, ◌<◌, ◌≤◌, Bool, true, false, cond, leb, List, [], ◌∷◌, ◌++◌, map, length, take, get_or, refl, sym, ap, ◌∙◌, subst, arith, count_by, cases_eq, inl, inr, eq-eqb, ne_eqb, length-append, length-map, take_all, take_at, take-take, get_or_at, get_or-append-add, get_or-map, sum_by-append, sum_by-cons, take-map, count, is_bit, Tree, leaf, fork, depth, forks, split, balanced, shift, link, entry, lows, highs, weight, IsFork, Stands, CountsWithin, GrowsTree, Grows, AreForks, Node, LEAVES}
use Rattle.wavelet_tree.proofs.Splits.{Divides, split_divides, only_symbol}
use Rattle.wavelet_tree.proofs.Standing.{count_begun, get_begun, length_begun, weight_fork, stands_kept}
use Rattle.wavelet_tree.proofs.Parts.{count_whole, count_map}

pub weight_leaf : (c : ℕ) (xs : List ℕ) → weight (leaf c) xs ≡ 0
unfolding depth
weight_leaf c [] = refl
weight_leaf c (x ∷ xs) = omega (arith, sum_by-cons (depth (leaf c)) x xs, weight_leaf c xs)

pub balanced_leaf : (starts : List ℕ) (n low end m : ℕ) → m ≡ split starts low end → get_or starts m 0 ≡ get_or starts end 0 → balanced starts (suc n) low end ≡ leaf (m - 1)
unfolding balanced
balanced_leaf starts n low end m is same = rw (← is, eq-eqb _ _ same) refl

pub balanced_fork : (starts : List ℕ) (n low end m : ℕ) → m ≡ split starts low end → (get_or starts m 0 ≡ get_or starts end 0 → ⊥) → balanced starts (suc n) low end ≡ fork m (balanced starts n low m) (balanced starts n m end)
unfolding balanced
balanced_fork starts n low end m is other = rw (← is, ne_eqb _ _ other) refl

pub leaf_tree : (starts : List ℕ) (low end m : ℕ) (xs : List ℕ) (nodes : List Node) (bits : List Bool) → CountsWithin starts low end xs → m ≡ split starts low end → get_or starts m 0 ≡ get_or starts end 0
    → GrowsTree (leaf (m - 1)) starts xs nodes nodes bits bits (LEAVES + (m - 1)) (get_or starts (m - 1) 0)
unfolding forks
leaf_tree starts low end m xs nodes bits counts is same =
    let divides : Divides starts low end m = rw is (split_divides starts low end xs counts) in
    let only = only_symbol starts low end m xs counts divides same in
    record {
      nodes_are = omega arith;
      bits_are = omega (arith, weight_leaf (m - 1) xs);
      stands = (only.0, omega (arith, only.1, counts.short end 0 counts.inside));
      link_is = refl;
      entry_is = refl;
    }

pub grown_leaf : (starts : List ℕ) (low end m : ℕ) (xs : List ℕ) (nodes : List Node) (bits : List Bool) (ones : ℕ) → CountsWithin starts low end xs → m ≡ split starts low end → get_or starts m 0 ≡ get_or starts end 0
    → ones ≡ count true bits (length bits) → Grows starts low end xs nodes nodes bits bits ones (LEAVES + (m - 1)) (get_or starts (m - 1) 0)
grown_leaf starts low end m xs nodes bits ones counts is same ones_are = record {
  kept_nodes = take_all (length nodes) nodes (omega arith);
  kept_bits = take_all (length bits) bits (omega arith);
  ones_are = ones_are;
  tree = λ n enough. at n enough;
}
  where
    at : (n : ℕ) → end ≤ low + n → GrowsTree (balanced starts n low end) starts xs nodes nodes bits bits (LEAVES + (m - 1)) (get_or starts (m - 1) 0)
    at zero enough = absurd (omega (arith, enough, counts.order))
    at (suc n) enough =
        subst (λ (t : Tree). GrowsTree t starts xs nodes nodes bits bits (LEAVES + (m - 1)) (get_or starts (m - 1) 0)) (sym (balanced_leaf starts n low end m is same)) (leaf_tree starts low end m xs nodes bits counts is same)

-- ---- lists that begin others

pub begins_on : {X : Type 0} (a b c : List X) → take (length a) b ≡ a → take (length b) c ≡ b → take (length a) c ≡ a
begins_on a b c first next =
    sym (take-take (length a) (length b) c (length_begun a b first)) ∙ ap (λ l. take (length a) l) next ∙ first

pub begins_append : {X : Type 0} (a b : List X) → take (length a) (a ++ b) ≡ a
begins_append a b = take_at a b (length a) refl

-- the ones of the elements' bits
count_appended : (f : ℕ → Bool) (bits : List Bool) (xs : List ℕ) (i : ℕ) → count true (bits ++ map f xs) (length bits + i) ≡ count true bits (length bits) + count_by f (take i xs)
unfolding count
count_appended f bits xs i =
    ap (λ (l : List Bool). count_by (is_bit true) l) (take_past bits (map f xs) i)
    ∙ sum_by-append (λ b. cond (is_bit true b) 1 0) bits (take i (map f xs))
    ∙ ap (λ n. n + count_by (is_bit true) (take i (map f xs))) (ap (λ (l : List Bool). count_by (is_bit true) l) (sym (take_all (length bits) bits (omega arith))))
    ∙ ap (λ n. count_by (is_bit true) (take (length bits) bits) + n) (ap (λ (l : List Bool). count_by (is_bit true) l) (take-map f i xs) ∙ count_map f (take i xs))
  where
    take_past : (a b : List Bool) (i : ℕ) → take (length a + i) (a ++ b) ≡ a ++ take i b
    take_past [] b i = let none : 0 + i ≡ i = omega arith in ap (λ n. take n b) none
    take_past (x ∷ a) b i = let more : suc (length a) + i ≡ suc (length a + i) = omega arith in rw more (ap (λ (l : List Bool). x ∷ l) (take_past a b i))

pub split_inside : (m end : ℕ) (starts : List ℕ) → m ≤ end → (get_or starts m 0 ≡ get_or starts end 0 → ⊥) → m < end
split_inside m end starts within other = elim (cases_eq m end) [ inl same ↦ absurd (other (ap (λ n. get_or starts n 0) same)) | inr differs ↦ omega (arith, differs, within) ]

-- ---- a fork

module _ (starts : List ℕ) (low end m : ℕ) (xs : List ℕ) (nodes nodes2 nodes3 nodes4 : List Node) (bits bits1 bits2 bits3 : List Bool) (ones ones2 ones3 to2 to3 from2 from3 : ℕ) (node : Node)
    (counts : CountsWithin starts low end xs) (m_is : m ≡ split starts low end) (other : get_or starts m 0 ≡ get_or starts end 0 → ⊥) (ones_are : ones ≡ count true bits (length bits))
    (made : bits1 ≡ bits ++ map (λ x. leb m x) xs)
    (left : Grows starts low m (lows m xs) nodes nodes2 bits1 bits2 ones2 to2 from2) (right : Grows starts m end (highs m xs) nodes2 nodes3 bits2 bits3 ones3 to3 from3)
    (low_is : node.low ≡ shift from2 (length bits - ones)) (high_is : node.high ≡ shift from3 ones) (low_link_is : node.low_link ≡ to2) (high_link_is : node.high_link ≡ to3) (split_is : node.split ≡ m)
    (pushed : nodes4 ≡ nodes3 ++ node ∷ []) (few : length nodes3 < LEAVES) where
  divides : Divides starts low end m
  divides = rw m_is (split_divides starts low end xs counts)

  long : length bits1 ≡ length bits + length xs
  long = rw made (length-append bits (map (λ x. leb m x) xs) ∙ ap (λ n. length bits + n) (length-map xs (λ x. leb m x)))

  more : length nodes4 ≡ length nodes3 + 1
  more = rw pushed (length-append nodes3 (node ∷ []))

  last_begins : take (length nodes3) nodes4 ≡ nodes3
  last_begins = rw pushed (begins_append nodes3 (node ∷ []))

  first_begins : take (length bits) bits1 ≡ bits
  first_begins = rw made (begins_append bits (map (λ x. leb m x) xs))

  both_begin : take (length bits1) bits3 ≡ bits1
  both_begin = begins_on bits1 bits2 bits3 left.kept_bits right.kept_bits

  all_begin : take (length bits) bits3 ≡ bits
  all_begin = begins_on bits bits1 bits3 first_begins both_begin

  -- the counts at the first bit of the fork
  ones_there : count true bits3 (length bits) ≡ ones
  ones_there = count_begun true bits bits3 (length bits) all_begin (omega arith) ∙ sym ones_are

  room : length bits1 ≤ length bits3
  room = length_begun bits1 bits3 both_begin

  fork_is : (l r : Tree) → GrowsTree l starts (lows m xs) nodes nodes2 bits1 bits2 to2 from2 → GrowsTree r starts (highs m xs) nodes2 nodes3 bits2 bits3 to3 from3
      → IsFork starts nodes4 bits3 (length bits3) m l r (length nodes) (length nodes + forks l + forks r) (length bits) xs
  fork_is l r a b =
      let own : length nodes3 ≡ length nodes + forks l + forks r = omega (arith, a.nodes_are, b.nodes_are) in
      let here : (d : Node) → get_or nodes4 (length nodes + forks l + forks r) d ≡ node = λ d. ap (λ (all : List Node). get_or all (length nodes + forks l + forks r) d) pushed ∙ get_or_at nodes3 node [] d (length nodes + forks l + forks r) own in
      record {
        inside = omega (arith, own, more);
        few = omega (arith, own, few);
        within = omega (arith, long, room);
        split_is = λ d. ap (λ (n : Node). n.split) (here d) ∙ split_is;
        low_link = λ d. ap (λ (n : Node). n.low_link) (here d) ∙ low_link_is ∙ a.link_is;
        high_link = λ d. ap (λ (n : Node). n.high_link) (here d) ∙ high_link_is ∙ b.link_is ∙ ap (λ n. link r n) a.nodes_are;
        low = λ d.
            ap (λ (n : Node). n.low) (here d) ∙ low_is ∙ ap (λ n. shift n (length bits - ones)) (a.entry_is ∙ ap (λ n. entry l starts n) long)
            ∙ ap (λ n. shift (entry l starts (length bits + length xs)) (length bits - n)) (sym ones_there);
        high = λ d.
            ap (λ (n : Node). n.high) (here d) ∙ high_is ∙ ap (λ n. shift n ones) (b.entry_is ∙ ap (λ n. entry r starts n) (omega (arith, a.bits_are, long)))
            ∙ ap (λ n. shift (entry r starts (length bits + length xs + weight l (lows m xs))) n) (sym ones_there);
        ones = λ i inside.
            count_begun true bits1 bits3 (length bits + i) both_begin (omega (arith, long, inside))
            ∙ ap (λ (l : List Bool). count true l (length bits + i)) made
            ∙ count_appended (λ x. leb m x) bits xs i
            ∙ ap (λ n. n + count_by (λ x. leb m x) (take i xs)) (sym ones_are ∙ sym ones_there);
        bit = λ i inside.
            get_begun bits1 bits3 (length bits + i) false both_begin (omega (arith, long, inside))
            ∙ ap (λ (l : List Bool). get_or l (length bits + i) false) made
            ∙ get_or-append-add bits (map (λ x. leb m x) xs) i false
            ∙ get_or-map (λ x. leb m x) xs i 0 false inside;
      }

  fork_tree : (l r : Tree) → GrowsTree l starts (lows m xs) nodes nodes2 bits1 bits2 to2 from2 → GrowsTree r starts (highs m xs) nodes2 nodes3 bits2 bits3 to3 from3
      → GrowsTree (fork m l r) starts xs nodes nodes4 bits bits3 (length nodes3) (length bits)
  unfolding forks
  fork_tree l r a b =
      let start : length bits1 ≡ length bits + length xs = long in
      let next : length bits2 ≡ length bits + length xs + weight l (lows m xs) = omega (arith, a.bits_are, long) in
      let low_stands = stands_kept starts nodes2 nodes4 bits2 bits3 (length bits2) (length bits3) (begins_on nodes2 nodes3 nodes4 right.kept_nodes last_begins) right.kept_bits (omega arith) (omega (arith, b.bits_are))
      l (length nodes) (length bits1) (lows m xs) a.stands in
      let high_stands = stands_kept starts nodes3 nodes4 bits3 bits3 (length bits3) (length bits3) last_begins (take_all (length bits3) bits3 (omega arith)) (omega arith) (omega arith)
      r (length nodes2) (length bits2) (highs m xs) b.stands in
      record {
        nodes_are = omega (arith, more, a.nodes_are, b.nodes_are);
        bits_are = omega (arith, a.bits_are, b.bits_are, long, weight_fork m l r xs);
        stands = (
          fork_is l r a b,
          subst (λ n. Stands l starts nodes4 bits3 (length bits3) (length nodes) n (lows m xs)) start low_stands,
          subst (λ n. Stands r starts nodes4 bits3 (length bits3) (length nodes + forks l) n (highs m xs)) next (subst (λ n. Stands r starts nodes4 bits3 (length bits3) n (length bits2) (highs m xs)) a.nodes_are high_stands),
        );
        link_is = omega (arith, a.nodes_are, b.nodes_are);
        entry_is = refl;
      }

  grown_at : (n : ℕ) → end ≤ low + n → GrowsTree (balanced starts n low end) starts xs nodes nodes4 bits bits3 (length nodes3) (length bits)
  grown_at zero enough = absurd (omega (arith, enough, counts.order))
  grown_at (suc n) enough =
      let less : m ≤ low + n = omega (arith, enough, split_inside m end starts divides.within other) in
      subst (λ (t : Tree). GrowsTree t starts xs nodes nodes4 bits bits3 (length nodes3) (length bits)) (sym (balanced_fork starts n low end m m_is other))
      (fork_tree (balanced starts n low m) (balanced starts n m end) (left.tree n less) (right.tree n (omega (arith, enough, divides.from))))

  pub grown_fork : Grows starts low end xs nodes nodes4 bits bits3 ones3 (length nodes3) (length bits)
  grown_fork = record {
    kept_nodes = begins_on nodes nodes2 nodes4 left.kept_nodes (begins_on nodes2 nodes3 nodes4 right.kept_nodes last_begins);
    kept_bits = all_begin;
    ones_are = right.ones_are;
    tree = grown_at;
  }

-- ---- a whole tree

pub count_empty : (bits : List Bool) → bits ≡ [] → 0 ≡ count true bits (length bits)
count_empty bits none = rw none (sym (count_whole []))

pub forks_made : (starts : List ℕ) (limit : ℕ) (xs : List ℕ) (nodes0 nodes : List Node) (bits0 bits ended : List Bool) (ones to from : ℕ) → Grows starts 0 limit xs nodes0 nodes bits0 bits ones to from
    → nodes0 ≡ [] → bits0 ≡ [] → ended ≡ bits ++ false ∷ [] → length ended < 2 ^ 64 → AreForks (balanced starts limit 0 limit) starts xs nodes ended to
forks_made starts limit xs nodes0 nodes bits0 bits ended ones to from grows no_nodes no_bits is fits =
    let t : Tree = balanced starts limit 0 limit in
    let made = grows.tree limit (omega arith) in
    let none : length nodes0 ≡ 0 = ap length no_nodes in
    let zero_bits : length bits0 ≡ 0 = ap length no_bits in
    let all : length bits ≡ weight t xs = omega (arith, made.bits_are, zero_bits) in
    let stands : Stands t starts nodes bits (length bits) 0 0 xs =
    subst (λ n. Stands t starts nodes bits (length bits) n 0 xs) none (subst (λ n. Stands t starts nodes bits (length bits) (length nodes0) n xs) zero_bits made.stands) in
    record {
      nodes_are = omega (arith, made.nodes_are, none);
      bits_are = ap length is ∙ length-append bits (false ∷ []) ∙ omega (arith, all);
      ended = ap (λ (l : List Bool). get_or l (weight t xs) true) is ∙ get_or_at bits false [] true (weight t xs) all;
      fits = fits;
      stands = stands_kept starts nodes nodes bits ended (length bits) (weight t xs) (take_all (length nodes) nodes (omega arith)) (rw is (begins_append bits (false ∷ []))) (omega arith) (omega (arith, all)) t 0 0 xs stands;
      root_is = made.link_is ∙ ap (λ n. link t n) none;
    }
