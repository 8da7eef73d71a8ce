-- The whole tree of a list: where walks begin, and which symbols its bits lead to.
use Rattle.wavelet_tree.proofs.Names.{◌≡◌, ℕ, ◌+◌, ◌*◌, ◌^◌, ◌/◌, ◌<◌, ◌≤◌, Bool, true, cond, ltb, eqb, List, map, length, take, get_or, refl, sym, ap, ◌∙◌, subst, arith, inl, inr, count_by, All, div-eq_of_lt, lt-div-mul-add, pow-le-pow_right, pow_pos, cases_lt, cases_eq, eq-eqb, ne_eqb, count_by-le-length, false≢true, get_or_default, get_or-map-range_with_len, length-map-range_with_len, same_lists, range_with_len, sum_by-take-le, take-take, take_all, Reads, AddsAtMost, Symbols, Tree, leaf, fork, depth, forks, lesser, starts_of, tree_of, occurring, sorted_position, link, entry, weight, Stands, led, symbols_in, IsTreeOf, Walks, CountsWithin, AreForks, balanced, Node, LEAVES, times, rules}
use Rattle.wavelet_tree.proofs.Lists.{count_none, none_counted}
use Rattle.wavelet_tree.proofs.Splits.{lesser_none}
use Rattle.wavelet_tree.proofs.Lesser.{lesser_next, lesser_zero}
use Rattle.wavelet_tree.proofs.Walking.{led_at}

-- a symbol that occurs is within the width
pub occurs_small : (xs : List ℕ) (s limit : ℕ) → All (λ x. x < limit) xs → 0 < count_by (λ x. eqb x s) xs → s < limit
occurs_small xs s limit small some = elim (cases_lt s limit) [
  | inl less ↦ less
  | inr more ↦ absurd (omega (arith, some, count_none (λ x. eqb x s) xs (λ k d inside. ne_eqb _ s (λ same. omega (arith, same, more, small k d inside)))))
]

pub start_at : (symbols : Symbols) (s : ℕ) → s < 2 ^ symbols.width + 1 → get_or (starts_of symbols) s 0 ≡ lesser symbols.items s
start_at symbols s inside = get_or-map-range_with_len (lesser symbols.items) 0 (2 ^ symbols.width + 1) s s 0 inside (omega arith)

-- the positions of a whole tree begin at 0
root_entry : (symbols : Symbols) (t : Tree) (nodes : List Node) (bits : List Bool) (used : ℕ) → 0 < length symbols.items → All (λ s. s < 2 ^ symbols.width) symbols.items
    → Stands t (starts_of symbols) nodes bits used 0 0 symbols.items → entry t (starts_of symbols) 0 ≡ 0
root_entry symbols (leaf c) nodes bits used some small stands =
    let here : get_or symbols.items 0 0 ≡ c = stands.0 0 0 some in
    start_at symbols c (omega (arith, here, small 0 0 some)) ∙ lesser_none symbols.items c (λ k d inside. omega (arith, stands.0 k d inside))
root_entry symbols (fork m l r) nodes bits used some small stands = refl

-- a walk that met no fork read nothing
no_fork : (each old : Reads) → AddsAtMost old old (times 0 each)
no_fork each old = search rules

-- a walk begins at the root
pub walk_begins : {symbols : Symbols} {starts : List ℕ} {nodes : List Node} {bits : List Bool} {root width len : ℕ} → IsTreeOf symbols starts nodes bits root width len
    → (here : Bool) (each : Reads) (s i j : ℕ) (old : Reads) → 0 < count_by (λ x. eqb x s) symbols.items → i ≤ length symbols.items → j ≤ length symbols.items
    → (here ≡ true → (i < length symbols.items) × (get_or symbols.items i 0 ≡ s))
    → Walks starts nodes bits (weight (tree_of symbols) symbols.items) here each s (depth (tree_of symbols) s) (sorted_position symbols.items i s) (sorted_position symbols.items j s) old old root i j
walk_begins {symbols} {starts} {nodes} {bits} is here each s i j old occurs i_within j_within found =
    let some : 0 < length symbols.items = omega (arith, occurs, count_by-le-length (λ x. eqb x s) symbols.items) in
    let small : s < 2 ^ symbols.width = occurs_small symbols.items s (2 ^ symbols.width) (rw (is.same_width) is.small) occurs in
    let stands : Stands (tree_of symbols) (starts_of symbols) nodes bits (weight (tree_of symbols) symbols.items) 0 0 symbols.items =
    subst (λ (l : List ℕ). Stands (tree_of symbols) l nodes bits (weight (tree_of symbols) symbols.items) 0 0 symbols.items) is.starts_are is.stands in
    let begins : entry (tree_of symbols) starts 0 ≡ 0 =
    ap (λ (l : List ℕ). entry (tree_of symbols) l 0) is.starts_are
    ∙ root_entry symbols (tree_of symbols) nodes bits (weight (tree_of symbols) symbols.items) some (rw (is.same_width) is.small) stands in
    let start : get_or starts s 0 ≡ lesser symbols.items s = ap (λ (l : List ℕ). get_or l s 0) is.starts_are ∙ start_at symbols s (omega (arith, small)) in (
      tree_of symbols,
      record {
        first = 0;
        start = 0;
        xs = symbols.items;
        i = i;
        j = j;
        steps = 0;
        stands = is.stands;
        link_is = is.root_is;
        a_is = omega (arith, begins);
        b_is = omega (arith, begins);
        i_within = i_within;
        j_within = j_within;
        occurs = occurs;
        goal_is = omega (arith, start);
        other_is = omega (arith, start);
        steps_are = omega arith;
        adds = no_fork each old;
        at_symbol = found;
      },
    )

-- the element at a position occurs
pub element_occurs : (xs : List ℕ) (i : ℕ) → i < length xs → 0 < count_by (λ x. eqb x (get_or xs i 0)) xs
element_occurs xs i inside = elim (cases_eq (count_by (λ x. eqb x (get_or xs i 0)) xs) 0) [
  | inl none ↦ absurd (false≢true (sym (none_counted (λ x. eqb x (get_or xs i 0)) xs none i 0 inside) ∙ eq-eqb (get_or xs i 0) (get_or xs i 0) refl))
  | inr some ↦ omega (arith, some)
]

-- the bits lead to the elements
pub symbols_are : (symbols : Symbols) (starts : List ℕ) (nodes : List Node) (bits : List Bool) (root len : ℕ) → starts ≡ starts_of symbols → All (λ s. s < 2 ^ symbols.width) symbols.items → length symbols.items ≡ len
    → length nodes ≡ forks (tree_of symbols) → weight (tree_of symbols) symbols.items < 2 ^ 64 → root ≡ link (tree_of symbols) 0
    → Stands (tree_of symbols) starts nodes bits (weight (tree_of symbols) symbols.items) 0 0 symbols.items → symbols_in nodes bits root len ≡ symbols.items
symbols_are symbols starts nodes bits root len starts_are small long nodes_are fits root_is stands =
    same_lists _ _ (length-map-range_with_len (led (length nodes) nodes bits root) 0 len ∙ sym long) (λ k d inside.
    let below : k < len = omega (arith, inside, length-map-range_with_len (led (length nodes) nodes bits root) 0 len) in
    let within : k < length symbols.items = omega (arith, below, long) in
    let again : Stands (tree_of symbols) (starts_of symbols) nodes bits (weight (tree_of symbols) symbols.items) 0 0 symbols.items =
    subst (λ (l : List ℕ). Stands (tree_of symbols) l nodes bits (weight (tree_of symbols) symbols.items) 0 0 symbols.items) starts_are stands in
    let begins = root_entry symbols (tree_of symbols) nodes bits (weight (tree_of symbols) symbols.items) (omega (arith, within)) small again in
    let led_there = led_at (starts_of symbols) nodes bits (weight (tree_of symbols) symbols.items) fits (length nodes) (tree_of symbols) 0 0 symbols.items k (omega (arith, nodes_are)) again within in
    get_or-map-range_with_len (led (length nodes) nodes bits root) 0 len k k d below (omega arith)
    ∙ ap (λ n. led (length nodes) nodes bits n k) root_is
    ∙ ap (λ n. led (length nodes) nodes bits (link (tree_of symbols) 0) n) (omega (arith, begins))
    ∙ led_there
    ∙ get_or_default symbols.items k 0 d within)

-- the bits of the elements are machine words
pub bits_fit : {symbols : Symbols} {starts : List ℕ} {nodes : List Node} {bits : List Bool} {root width len : ℕ} → IsTreeOf symbols starts nodes bits root width len → weight (tree_of symbols) symbols.items < 2 ^ 64
bits_fit is = omega (arith, is.bits_are, is.fits)

-- ---- what is stored

-- there are no more nodes than symbols
pub forks_few : (starts : List ℕ) (nodes : List Node) (bits : List Bool) (used : ℕ) (t : Tree) (start : ℕ) (xs : List ℕ) → Stands t starts nodes bits used 0 start xs → forks t ≤ LEAVES
unfolding forks
forks_few starts nodes bits used (leaf c) start xs stands = omega arith
forks_few starts nodes bits used (fork m l r) start xs stands = omega (arith, stands.0.few)

pub nodes_few : {symbols : Symbols} {starts : List ℕ} {nodes : List Node} {bits : List Bool} {root width len : ℕ} → IsTreeOf symbols starts nodes bits root width len → length nodes ≤ LEAVES
nodes_few {symbols} {starts} {nodes} {bits} is = omega (arith, is.nodes_are, forks_few starts nodes bits (weight (tree_of symbols) symbols.items) (tree_of symbols) 0 symbols.items is.stands)

pub starts_many : {symbols : Symbols} {starts : List ℕ} {nodes : List Node} {bits : List Bool} {root width len : ℕ} → IsTreeOf symbols starts nodes bits root width len
    → (length starts ≡ 2 ^ symbols.width + 1) × (2 ^ symbols.width ≤ 65536)
starts_many {symbols} is = (
  ap (λ (l : List ℕ). length l) is.starts_are ∙ length-map-range_with_len (lesser symbols.items) 0 (2 ^ symbols.width + 1),
  pow-le-pow_right {n = 2} (omega arith) {i = symbols.width} {j = 16} (omega (arith, is.same_width, is.narrow)),
)

-- the starts of a symbol and of the next one
pub sorted_between : {symbols : Symbols} {starts : List ℕ} {nodes : List Node} {bits : List Bool} {root width len : ℕ} → IsTreeOf symbols starts nodes bits root width len
    → (s : ℕ) → s / 2 ^ width ≡ 0 → (s + 1 < length starts) × (get_or starts s 0 ≡ lesser symbols.items s) × (get_or starts (s + 1) 0 ≡ lesser symbols.items s + count_by (λ x. eqb x s) symbols.items)
sorted_between {symbols} {starts} {width = width} is s none =
    let small : s < 2 ^ symbols.width = rw (is.same_width) (omega (arith, lt-div-mul-add {a = s} {b = 2 ^ width} (pow_pos width), ap (λ n. n * 2 ^ width) none)) in
    let many = (starts_many is).0 in
    let first : get_or starts s 0 ≡ lesser symbols.items s = ap (λ (l : List ℕ). get_or l s 0) is.starts_are ∙ start_at symbols s (omega (arith, small)) in
    let next : get_or starts (s + 1) 0 ≡ lesser symbols.items (s + 1) = ap (λ (l : List ℕ). get_or l (s + 1) 0) is.starts_are ∙ start_at symbols (s + 1) (omega (arith, small)) in
    (omega (arith, many, small), first, omega (arith, next, lesser_next symbols.items s))

-- a wider symbol doesn't occur
pub none_wider : {symbols : Symbols} {starts : List ℕ} {nodes : List Node} {bits : List Bool} {root width len : ℕ} → IsTreeOf symbols starts nodes bits root width len
    → (s : ℕ) → (s / 2 ^ width ≡ 0 → ⊥) → count_by (λ x. eqb x s) symbols.items ≡ 0
none_wider {symbols} {width = width} is s wide =
    count_none (λ x. eqb x s) symbols.items (λ k d inside. ne_eqb _ s (λ same. wide (div-eq_of_lt {n = s} {m = 2 ^ width} (rw (sym same) (is.small k d inside)))))

-- ---- a tree that is made

pub counts_all : (limit : ℕ) (xs starts : List ℕ) → 0 < limit → All (λ x. x < limit) xs → length xs ≤ 9223372036854775807 → length starts ≡ limit + 1
    → ((c : ℕ) → c < length starts → get_or starts c 0 ≡ lesser xs c) → (starts ≡ map (lesser xs) (range_with_len 0 (limit + 1))) × CountsWithin starts 0 limit xs
counts_all limit xs starts some small short long are = (
  same_lists _ _ (long ∙ sym (length-map-range_with_len (lesser xs) 0 (limit + 1)))
      (λ k d inside. get_or_default starts k d 0 inside ∙ are k inside ∙ sym (get_or-map-range_with_len (lesser xs) 0 (limit + 1) k k d (omega (arith, inside, long)) (omega arith))),
  record {
    order = some;
    inside = omega (arith, long);
    short = λ k d inside. omega (arith, get_or_default starts k d 0 inside, are k inside, short, count_by-le-length (λ x. ltb x k) xs);
    elements = λ k d inside. (omega arith, small k d inside);
    counts = λ c from within. omega (arith, are c (omega (arith, within, long)), are 0 (omega (arith, long)), lesser_zero xs);
  },
)

pub tree_made : (width limit len : ℕ) (xs starts : List ℕ) (nodes : List Node) (bits : List Bool) (root : ℕ) → limit ≡ 2 ^ width → width ≤ 16 → All (λ x. x < 2 ^ width) xs → length xs ≡ len → len < 2 ^ 64
    → starts ≡ map (lesser xs) (range_with_len 0 (limit + 1)) → AreForks (balanced starts limit 0 limit) starts xs nodes bits root
    → IsTreeOf (record { width = width; items = xs }) starts nodes bits root width len × (symbols_in nodes bits root len ≡ xs)
tree_made width limit len xs starts nodes bits root limit_is narrow small long short starts_are forks_are =
    let symbols : Symbols = record { width = width; items = xs } in
    let same : starts ≡ starts_of symbols = starts_are ∙ ap (λ n. map (lesser xs) (range_with_len 0 (n + 1))) limit_is in
    let tree : balanced starts limit 0 limit ≡ tree_of symbols = ap (λ (l : List ℕ). balanced l limit 0 limit) same ∙ ap (λ n. balanced (starts_of symbols) n 0 n) limit_is in
    let made = subst (λ (t : Tree). AreForks t starts xs nodes bits root) tree forks_are in (
      record {
        narrow = narrow;
        same_width = refl;
        long = long;
        short = short;
        small = small;
        starts_are = same;
        nodes_are = made.nodes_are;
        bits_are = made.bits_are;
        ended = made.ended;
        fits = made.fits;
        root_is = made.root_is;
        stands = made.stands;
      },
      symbols_are symbols starts nodes bits root len same small long made.nodes_are (omega (arith, made.bits_are, made.fits)) made.root_is made.stands,
    )

-- of more positions as many have a symbol, or more
pub occurring_up : (xs : List ℕ) (s i j : ℕ) → i ≤ j → occurring xs i s ≤ occurring xs j s
occurring_up xs s i j up = omega (arith, sum_by-take-le (λ x. cond (eqb x s) 1 0) (take j xs) i, ap (count_by (λ x. eqb x s)) (take-take i j xs up))

pub occurring_all : (xs : List ℕ) (s n : ℕ) → n ≡ length xs → occurring xs n s ≡ count_by (λ x. eqb x s) xs
occurring_all xs s n all = ap (count_by (λ x. eqb x s)) (take_all n xs (omega (arith, all)))

pub occurring_few : (xs : List ℕ) (s i : ℕ) → occurring xs i s ≤ count_by (λ x. eqb x s) xs
occurring_few xs s i = sum_by-take-le (λ x. cond (eqb x s) 1 0) xs i
