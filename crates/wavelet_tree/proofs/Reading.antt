-- All symbols of a stored tree, read fork by fork: the merge of both sides, and what is stored below a fork.
use Rattle.wavelet_tree.proofs.Names.{◌≡◌, ℕ, ◌+◌, ◌-◌, ◌/◌, ◌^◌, ◌<◌, ◌≤◌, Bool, true, false, cond, not, eqb, ltb, leb, List, [], ◌∷◌, ◌++◌, map, length, take, set, get_or, replicate, refl, sym, ap, ◌∙◌, subst, arith, inl, inr, count_by, All, All-filter, cases_Bool, cases_eq, cases_lt, le-ltb, leb-false, lt-ltb, get_or-append-add, get_or_append_left, get_or-map, get_or-replicate, get_or-set_other, get_or-set_same, get_or_default, length-filter, length-map, length-replicate, same_lists, take_all, bit_value, count_up, Tree, leaf, fork, forks, link, lows, highs, weight, no_node, Node, LEAVES, Symbols, IsTreeOf, tree_of, pow-le-pow_right}
use Rattle.wavelet_tree.proofs.Lists.{count_both, count_first_sides, kept_at, kept_inside, sides}
use Rattle.wavelet_tree.proofs.Growing.{weight_leaf}
use Rattle.wavelet_tree.proofs.Standing.{weight_fork}
use Rattle.vers_bits.proofs.PublicLaws.{count_near, count_more_no, count_more_yes, part_bit}
use Rattle.std.proofs.lemmas.Nat.Bits.{shr_and_one}
use Rattle.std.specs.Prelude.{bit_and}
use Rattle.vers_bits.specs.Bits.{number, part}
use Rattle.wavelet_tree.specs.inside.Reading.{AreRead, IsStored, Merges, StoresMany, own_ones, next_source}

-- ---- the bits of a fork

-- a bit of a word of them
pub bit_of_part : (bits : List Bool) (start n k word : ℕ) → k < n → word ≡ number (part bits start n) → eqb (bit_and (word / 2 ^ k) 1) 1 ≡ get_or bits (start + k) false
bit_of_part bits start n k word inside is =
    let bit = part_bit bits start n k inside in
    rw (is, shr_and_one, bit) (grind (arith, cases_Bool (get_or bits (start + k) false)))

pub own_more : (bits : List Bool) (start position : ℕ) → start + position < length bits → own_ones bits start (position + 1) ≡ own_ones bits start position + bit_value (get_or bits (start + position) false)
own_more bits start position inside =
    let up = count_up true bits start (start + position) (omega arith) in
    let next : start + (position + 1) ≡ start + position + 1 = omega arith in
    elim (cases_Bool (get_or bits (start + position) false)) [
      | inl on ↦ rw (next, count_more_yes true bits (start + position) inside on, on) (omega arith)
      | inr off ↦ rw (next, count_more_no true bits (start + position) inside off, off) (omega arith)
    ]

pub own_less : (bits : List Bool) (start position : ℕ) → own_ones bits start position ≤ position
own_less bits start position = omega (arith, count_near true bits start (start + position) (omega arith))

-- ---- the merge

-- the next elements of both sides, before an element of a fork
pub record NextAt (bits : List Bool) (start low_len position low high : ℕ) : Type 0 where
  pub low_is : low + own_ones bits start position ≡ position
  pub high_is : high ≡ low_len + own_ones bits start position

-- the element is one of them, and what is next after it
pub record Comes (bits : List Bool) (start low_len many position low high : ℕ) (is_one : Bool) : Type 0 where
  pub bit : is_one ≡ get_or bits (start + position) false
  pub inside : next_source is_one low high < many
  pub high_within : high + bit_value is_one ≤ many
  pub low_within : low + bit_value (not is_one) ≤ many
  pub after : NextAt bits start low_len (position + 1) (low + bit_value (not is_one)) (high + bit_value is_one)

comes : (bits : List Bool) (start low_len many position low high : ℕ) (is_one : Bool) → start + many ≤ length bits → low_len + own_ones bits start many ≡ many → position < many
    → is_one ≡ get_or bits (start + position) false → NextAt bits start low_len position low high → Comes bits start low_len many position low high is_one
comes bits start low_len many position low high is_one within all inside bit next =
    let more = own_more bits start position (omega arith) in
    let value : bit_value is_one ≡ bit_value (get_or bits (start + position) false) = ap (λ b. bit_value b) bit in
    let first = count_up true bits start (start + position) (omega arith) in
    let up = count_up true bits (start + (position + 1)) (start + many) (omega arith) in
    let near = count_near true bits (start + (position + 1)) (start + many) (omega arith) in
    let less = own_less bits start position in
    elim (cases_Bool is_one) [
      | inl on ↦
          let one : bit_value is_one ≡ 1 = rw on refl in
          let none : bit_value (not is_one) ≡ 0 = rw on refl in
          record {
            bit = bit;
            inside = rw on (omega (arith, next.low_is, next.high_is));
            high_within = omega (arith, next.low_is, next.high_is);
            low_within = omega (arith, next.low_is, next.high_is);
            after = record { low_is = omega (arith, next.low_is); high_is = omega (arith, next.high_is) };
          }
      | inr off ↦
          let none : bit_value is_one ≡ 0 = rw off refl in
          let one : bit_value (not is_one) ≡ 1 = rw off refl in
          record {
            bit = bit;
            inside = rw off (omega (arith, next.low_is, next.high_is));
            high_within = omega (arith, next.low_is, next.high_is);
            low_within = omega (arith, next.low_is, next.high_is);
            after = record { low_is = omega (arith, next.low_is); high_is = omega (arith, next.high_is) };
          }
    ]

-- that of the next bit of a word
pub comes_next : (bits : List Bool) (start low_len many position n k low high word : ℕ) → start + many ≤ length bits → low_len + own_ones bits start many ≡ many → position + k < many → k < n
    → word ≡ number (part bits (start + position) n) → NextAt bits start low_len (position + k) low high → Comes bits start low_len many (position + k) low high (eqb (bit_and (word / 2 ^ k) 1) 1)
comes_next bits start low_len many position n k low high word within all inside less is next =
    let there : start + position + k ≡ start + (position + k) = omega arith in
    comes bits start low_len many (position + k) low high _ within all inside (bit_of_part bits (start + position) n k word less is ∙ ap (λ p. get_or bits p false) there) next

pub merged_more : {X : Type 0} (bits : List Bool) (start low_len many : ℕ) (parts merged : List X) (position low high from : ℕ) (is_one : Bool) (x : X) → position < length merged → length parts ≡ many → NextAt bits start low_len position low high
    → Comes bits start low_len many position low high is_one → from ≡ next_source is_one low high → x ≡ get_or parts from x → Merges bits start low_len parts merged position → Merges bits start low_len parts (set merged position x) (position + 1)
merged_more bits start low_len many parts merged position low high from is_one x inside long next comes from_is read before =
    let within : from < length parts = omega (arith, from_is, comes.inside, long) in
    let low_there : low ≡ position - own_ones bits start position = omega (arith, next.low_is) in
    let there : from ≡ next_source (get_or bits (start + position) false) (position - own_ones bits start position) (low_len + own_ones bits start position) =
    from_is ∙ ap (λ (b : Bool). next_source b low high) comes.bit ∙ ap (λ n. next_source (get_or bits (start + position) false) n high) low_there ∙ ap (λ n. next_source (get_or bits (start + position) false) (position - own_ones bits start position) n) next.high_is in
    record {
      are = λ k d less. elim (cases_eq k position) [
        | inl same ↦ rw same (get_or-set_same merged position x d inside ∙ read ∙ get_or_default parts from x d within ∙ ap (λ n. get_or parts n d) there)
        | inr other ↦ get_or-set_other merged position k x d other ∙ before.are k d (omega (arith, less, other))
      ];
    }

-- ---- what is stored below a fork

-- a link to a fork leads down
link_less : (t : Tree) (first own : ℕ) → first + forks t ≤ own → link t first < LEAVES → link t first < own
unfolding forks
link_less (leaf c) first own within few = absurd (omega (arith, few))
link_less (fork m l r) first own within few = omega (arith, within)

pub record ForkStored (m : ℕ) (l r : Tree) (xs : List ℕ) (nodes : List Node) (bits : List Bool) (to start : ℕ) (node : Node) : Type 0 where
  pub left : IsStored l (lows m xs) nodes bits node.low_link (start + length xs)
  pub right : IsStored r (highs m xs) nodes bits node.high_link (start + length xs + weight l (lows m xs))
  pub within : start + length xs < length bits
  pub bit : (k : ℕ) → k < length xs → get_or bits (start + k) false ≡ leb m (get_or xs k 0)
  pub ones : (k : ℕ) → k ≤ length xs → own_ones bits start k ≡ count_by (λ x. leb m x) (take k xs)
  pub low_len : length (lows m xs) + own_ones bits start (length xs) ≡ length xs
  pub high_len : length (highs m xs) ≡ own_ones bits start (length xs)
  pub low_down : node.low_link < LEAVES → node.low_link < to
  pub high_down : node.high_link < LEAVES → node.high_link < to

pub fork_stored : (m : ℕ) (l r : Tree) (xs : List ℕ) (nodes : List Node) (bits : List Bool) (to start : ℕ) (node : Node) → IsStored (fork m l r) xs nodes bits to start → node ≡ get_or nodes to no_node → ForkStored m l r xs nodes bits to start node
fork_stored m l r xs nodes bits to start node is read =
    let at_node : node ≡ get_or nodes (is.first + forks l + forks r) no_node = read ∙ ap (λ n. get_or nodes n no_node) is.link_is in
    let all : own_ones bits start (length xs) ≡ count_by (λ x. leb m x) xs =
    omega (arith, is.stands.0.ones (length xs) (omega arith), ap (count_by (λ x. leb m x)) (take_all (length xs) xs (omega arith))) in
    let low_link : node.low_link ≡ link l is.first = ap (λ (n : Node). n.low_link) at_node ∙ is.stands.0.low_link no_node in
    let high_link : node.high_link ≡ link r (is.first + forks l) = ap (λ (n : Node). n.high_link) at_node ∙ is.stands.0.high_link no_node in
    record {
      left = record {
        starts = is.starts;
        used = is.used;
        first = is.first;
        stands = is.stands.1;
        link_is = low_link;
        inside = is.inside;
        fits = is.fits;
      };
      right = record {
        starts = is.starts;
        used = is.used;
        first = is.first + forks l;
        stands = is.stands.2;
        link_is = high_link;
        inside = is.inside;
        fits = is.fits;
      };
      within = omega (arith, is.stands.0.within, is.inside);
      bit = is.stands.0.bit;
      ones = λ k within. omega (arith, is.stands.0.ones k within);
      low_len = omega (arith, all, length-filter (λ x. ltb x m) xs, count_both (λ x. ltb x m) (λ x. leb m x) (sides m) xs);
      high_len = omega (arith, all, length-filter (λ x. leb m x) xs);
      low_down = λ few. omega (arith, low_link, is.link_is, link_less l is.first to (omega (arith, is.link_is)) (omega (arith, low_link, few)));
      high_down = λ few. omega (arith, high_link, is.link_is, link_less r (is.first + forks l) to (omega (arith, is.link_is)) (omega (arith, high_link, few)));
    }

-- a fork's links to forks lead down
pub goes_down : (below to : ℕ) → to < LEAVES → (below < LEAVES → below < to) → cond (ltb below LEAVES) (below + 1) 0 < cond (ltb to LEAVES) (to + 1) 0
goes_down below to few down = elim (cases_lt below LEAVES) [
  | inl less ↦ rw (lt-ltb below LEAVES less, lt-ltb to LEAVES few) (omega (arith, down less))
  | inr more ↦ rw (le-ltb below LEAVES more, lt-ltb to LEAVES few) (omega arith)
]

-- both sides of a fork whose elements are as many, each below a limit
pub record Forks (nodes : List Node) (bits : List Bool) (to start many limit : ℕ) (node : Node) : Type 0 where
  pub m : ℕ
  pub l : Tree
  pub r : Tree
  pub xs : List ℕ
  pub stored : ForkStored m l r xs nodes bits to start node
  pub long : length xs ≡ many
  pub small : All (λ x. x < limit) xs

pub forks_at : (nodes : List Node) (bits : List Bool) (to start many limit : ℕ) (node : Node) → StoresMany nodes bits to start many limit → to < LEAVES → node ≡ get_or nodes to no_node → Forks nodes bits to start many limit node
forks_at nodes bits to start many limit node has less read = at has.t has.stored
  where
    at : (t : Tree) → IsStored t has.xs nodes bits to start → Forks nodes bits to start many limit node
    at (leaf c) is = absurd (omega (arith, is.link_is, less))
    at (fork m l r) is = record { m = m; l = l; r = r; xs = has.xs; stored = fork_stored m l r has.xs nodes bits to start node is read; long = has.long; small = has.small }

pub left_stores : (nodes : List Node) (bits : List Bool) (to start many limit low_len end : ℕ) (node : Node) → Forks nodes bits to start many limit node → low_len + own_ones bits start many ≡ many → end ≡ start + many
    → StoresMany nodes bits node.low_link end low_len limit
left_stores nodes bits to start many limit low_len end node f low_is end_is = record {
  t = f.l;
  xs = lows f.m f.xs;
  stored = subst (λ n. IsStored f.l (lows f.m f.xs) nodes bits node.low_link n) (omega (arith, f.long, end_is)) f.stored.left;
  long = omega (arith, f.stored.low_len, low_is, ap (λ n. own_ones bits start n) f.long, f.long);
  small = All-filter (λ x. ltb x f.m) (λ x. x < limit) f.xs f.small;
}

pub right_stores : (nodes : List Node) (bits : List Bool) (to start many limit low_len high_len end low_end : ℕ) (read : List ℕ) (node : Node) → Forks nodes bits to start many limit node → low_len + own_ones bits start many ≡ many
    → high_len ≡ own_ones bits start many → end ≡ start + many → AreRead nodes bits node.low_link end low_end read → length read ≡ low_len → StoresMany nodes bits node.high_link low_end high_len limit
right_stores nodes bits to start many limit low_len high_len end low_end read node f low_is high_is end_is left read_long =
    let low_stored : IsStored f.l (lows f.m f.xs) nodes bits node.low_link end = subst (λ n. IsStored f.l (lows f.m f.xs) nodes bits node.low_link n) (omega (arith, f.long, end_is)) f.stored.left in
    let low_long : length (lows f.m f.xs) ≡ length read = omega (arith, f.stored.low_len, low_is, ap (λ n. own_ones bits start n) f.long, f.long, read_long) in
    let next : low_end ≡ end + weight f.l (lows f.m f.xs) = left.next_is f.l (lows f.m f.xs) low_stored low_long in
    record {
      t = f.r;
      xs = highs f.m f.xs;
      stored = subst (λ n. IsStored f.r (highs f.m f.xs) nodes bits node.high_link n) (omega (arith, f.long, end_is, next)) f.stored.right;
      long = omega (arith, f.stored.high_len, high_is, ap (λ n. own_ones bits start n) f.long);
      small = All-filter (λ x. leb f.m x) (λ x. x < limit) f.xs f.small;
    }

-- ---- what is read

pub leaf_read : (nodes : List Node) (bits : List Bool) (to start many : ℕ) (read : List ℕ) → LEAVES ≤ to → read ≡ replicate many (to - LEAVES) → length read ≡ many → AreRead nodes bits to start start read
leaf_read nodes bits to start many read more made long = record {
  are = λ t xs is same. (at t xs is same).0;
  next_is = λ t xs is same. (at t xs is same).1;
}
  where
    at : (t : Tree) (xs : List ℕ) → IsStored t xs nodes bits to start → length xs ≡ length read → (read ≡ xs) × (start ≡ start + weight t xs)
    at (leaf c) xs is same = (
      same_lists read xs (sym same) (λ k d inside.
          ap (λ (l : List ℕ). get_or l k d) made
          ∙ get_or-replicate many k (to - LEAVES) d (omega (arith, inside, long))
          ∙ omega (arith, is.link_is)
          ∙ sym (is.stands.0 k d (omega (arith, inside, same)))),
      omega (arith, weight_leaf c xs),
    )
    at (fork m l r) xs is same = absurd (omega (arith, is.stands.0.few, is.link_is, more))

some_of : {X : Type 0} (xs : List X) → 0 < length xs → X
some_of [] some = absurd (omega (arith, some))
some_of (x ∷ xs) some = x

-- the elements of both sides, merged, are those of the fork
merged_all : {X : Type 0} (value : X → ℕ) (m : ℕ) (l r : Tree) (xs : List ℕ) (nodes : List Node) (bits : List Bool) (to start : ℕ) (node : Node) (lefts rights merged : List X) → ForkStored m l r xs nodes bits to start node
    → map value lefts ≡ lows m xs → map value rights ≡ highs m xs → length xs ≡ length merged → Merges bits start (length lefts) (lefts ++ rights) merged (length merged) → map value merged ≡ xs
merged_all value m l r xs nodes bits to start node lefts rights merged f left_is right_is long merges =
    same_lists (map value merged) xs (length-map merged value ∙ sym long) (λ k d inside.
    let here : k < length merged = omega (arith, inside, length-map merged value) in
    let within : k < length xs = omega (arith, here, long) in
    let x = some_of merged (omega (arith, here)) in
    let ones = f.ones k (omega (arith, within)) in
    let first = merges.are k x here in
    get_or-map value merged k x d here
    ∙ elim (cases_Bool (leb m (get_or xs k 0))) [
      | inl on ↦
          let bit : get_or bits (start + k) false ≡ true = f.bit k within ∙ on in
          let i : ℕ = count_by (λ y. leb m y) (take k xs) in
          let inside_high : i < length rights = omega (arith, kept_inside (λ y. leb m y) xs k 0 within on, ap length right_is, length-map rights value) in
          ap value (first ∙ ap (λ (b : Bool). get_or (lefts ++ rights) (next_source b (k - own_ones bits start k) (length lefts + own_ones bits start k)) x) bit ∙ ap (λ n. get_or (lefts ++ rights) (length lefts + n) x) ones ∙ get_or-append-add lefts rights i x)
          ∙ sym (get_or-map value rights i x 0 inside_high)
          ∙ ap (λ (l : List ℕ). get_or l i 0) right_is
          ∙ kept_at (λ y. leb m y) xs k 0 within on
      | inr off ↦
          let bit : get_or bits (start + k) false ≡ false = f.bit k within ∙ off in
          let i : ℕ = count_by (λ y. ltb y m) (take k xs) in
          let low : ltb (get_or xs k 0) m ≡ true = lt-ltb _ m (leb-false m _ off) in
          let inside_low : i < length lefts = omega (arith, kept_inside (λ y. ltb y m) xs k 0 within low, ap length left_is, length-map lefts value) in
          let position : k - own_ones bits start k ≡ i = omega (arith, ones, count_first_sides m xs k (omega (arith, within))) in
          ap value (first ∙ ap (λ (b : Bool). get_or (lefts ++ rights) (next_source b (k - own_ones bits start k) (length lefts + own_ones bits start k)) x) bit ∙ ap (λ n. get_or (lefts ++ rights) n x) position ∙ get_or_append_left lefts rights x i inside_low)
          ∙ sym (get_or-map value lefts i x 0 inside_low)
          ∙ ap (λ (l : List ℕ). get_or l i 0) left_is
          ∙ kept_at (λ y. ltb y m) xs k 0 within low
    ]
    ∙ get_or_default xs k 0 d within)

pub fork_read : {X : Type 0} (value : X → ℕ) (nodes : List Node) (bits : List Bool) (to start end low_len low_end next : ℕ) (node : Node) (lefts rights merged : List X)
    → to < LEAVES → node ≡ get_or nodes to no_node → end ≡ start + length merged → low_len ≡ length lefts → low_len + own_ones bits start (length merged) ≡ length merged → length lefts + length rights ≡ length merged
    → AreRead nodes bits node.low_link end low_end (map value lefts) → AreRead nodes bits node.high_link low_end next (map value rights) → Merges bits start low_len (lefts ++ rights) merged (length merged)
    → AreRead nodes bits to start next (map value merged)
fork_read value nodes bits to start end low_len low_end next node lefts rights merged less read end_is low_is own both left right merges = record {
  are = λ t xs is same. (at t xs is (same ∙ length-map merged value)).0;
  next_is = λ t xs is same. (at t xs is (same ∙ length-map merged value)).1;
}
  where
    at : (t : Tree) (xs : List ℕ) → IsStored t xs nodes bits to start → length xs ≡ length merged → (map value merged ≡ xs) × (next ≡ start + weight t xs)
    at (leaf c) xs is long = absurd (omega (arith, is.link_is, less))
    at (fork m l r) xs is long =
        let f = fork_stored m l r xs nodes bits to start node is read in
        let same_own = ap (λ n. own_ones bits start n) long in
        let low_long : length (lows m xs) ≡ length (map value lefts) = omega (arith, f.low_len, same_own, own, long, low_is, length-map lefts value) in
        let low_stored : IsStored l (lows m xs) nodes bits node.low_link end = subst (λ n. IsStored l (lows m xs) nodes bits node.low_link n) (omega (arith, long, end_is)) f.left in
        let low_next : low_end ≡ end + weight l (lows m xs) = left.next_is l (lows m xs) low_stored low_long in
        let high_long : length (highs m xs) ≡ length (map value rights) = omega (arith, f.high_len, same_own, own, low_is, both, length-map rights value) in
        let high_stored : IsStored r (highs m xs) nodes bits node.high_link low_end = subst (λ n. IsStored r (highs m xs) nodes bits node.high_link n) (omega (arith, long, end_is, low_next)) f.right in
        let high_next : next ≡ low_end + weight r (highs m xs) = right.next_is r (highs m xs) high_stored high_long in (
          merged_all value m l r xs nodes bits to start node lefts rights merged f (left.are l (lows m xs) low_stored low_long) (right.are r (highs m xs) high_stored high_long) long
              (subst (λ n. Merges bits start n (lefts ++ rights) merged (length merged)) low_is merges),
          omega (arith, weight_fork m l r xs, high_next, low_next, end_is, long),
        )

-- all elements are one symbol
pub all_same : {X : Type 0} (value : X → ℕ) (symbol : ℕ) (items : List X) (many : ℕ) → length items ≡ many → ((k : ℕ) (d : X) → k < length items → value (get_or items k d) ≡ symbol) → map value items ≡ replicate many symbol
all_same value symbol items many long are =
    same_lists (map value items) (replicate many symbol) (omega (arith, length-map items value, length-replicate many symbol, long)) (λ k d inside.
    let here : k < length items = omega (arith, inside, length-map items value) in
    let x = some_of items (omega (arith, here)) in
    get_or-map value items k x d here ∙ are k x here ∙ sym (get_or-replicate many k symbol d (omega (arith, here, long))))

-- ---- a whole tree

pub whole_stored : {symbols : Symbols} {starts : List ℕ} {nodes : List Node} {bits : List Bool} {root width len : ℕ} → IsTreeOf symbols starts nodes bits root width len → IsStored (tree_of symbols) symbols.items nodes bits root 0
whole_stored {symbols} {starts} is = record {
  starts = starts;
  used = weight (tree_of symbols) symbols.items;
  first = 0;
  stands = is.stands;
  link_is = is.root_is;
  inside = omega (arith, is.bits_are);
  fits = is.fits;
}

pub whole_stores : {symbols : Symbols} {starts : List ℕ} {nodes : List Node} {bits : List Bool} {root width len : ℕ} (many k : ℕ) → IsTreeOf symbols starts nodes bits root width len → many ≡ len → symbols.width ≤ k
    → StoresMany nodes bits root 0 many (2 ^ k)
whole_stores {symbols} many k is same wide = record {
  t = tree_of symbols;
  xs = symbols.items;
  stored = whole_stored is;
  long = is.long ∙ sym same;
  small = λ p d inside.
      let power = pow-le-pow_right {n = 2} (omega arith) {i = symbols.width} {j = k} wide in
      omega (arith, power, ap (λ w. 2 ^ w) is.same_width, is.small p d inside);
}
