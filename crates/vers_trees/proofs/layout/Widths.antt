-- The width of a tree, and its nodes put together.
use Rattle.vers_trees.proofs.Names.{◌≡◌, ℕ, suc, ◌+◌, ◌-◌, ◌*◌, ◌^◌, ◌<◌, ◌≤◌, inl, inr, min, max, Bool, List, [], ◌∷◌, ◌++◌, length, get_or, take, drop, arith, ⊎_elim, subst, sym, refl, ap, ◌∙◌, length-append, cases_lt, div_ceil_times, get_or_append_left, get_or_at, take-append_seam, pow-le-pow_right, pow_next, pow_pos, clog_is_least, mul-le-mul_right, digits, digits_below_pow, Node, IsPart, CoveredFrom, empty_node, block_count, clog, levels, node_count, IsWidth, IsGrowing, AreFirstBlocks, IsTreeOf}
use Rattle.vers_trees.proofs.layout.MinMax.{order}

pub grow_start : (leaves : ℕ) → IsGrowing leaves 2
grow_start leaves = record { exponent = 0; power = refl; short = inl refl }

pub grow_more : (leaves w : ℕ) → IsGrowing leaves w → w < leaves → IsGrowing leaves (w * 2)
grow_more leaves w g h = record { exponent = suc g.exponent; power = omega arith; short = inr (omega arith) }

pub grown : (leaves w : ℕ) → leaves < 2 ^ 63 → IsGrowing leaves w → leaves ≤ w → IsWidth leaves w
grown leaves w h g enough = grind (arith, pow_next g.exponent, pow_pos g.exponent, clog_is_least leaves (g.exponent + 1), clog_is_least leaves g.exponent, order g.exponent 62, pow-le-pow_right)

-- ---- how many nodes there are
pub some_counted : (size n : ℕ) → 0 < n → (node_count size n ≡ block_count size n + max 1 (2 ^ clog (block_count size n) - 1)) × (levels size n ≡ max 1 (clog (block_count size n)) + 1)
unfolding node_count levels
some_counted size n h = grind arith

pub no_nodes_counted : (size n : ℕ) (nodes : List Node) → n ≡ 0 → nodes ≡ [] → length nodes ≡ node_count size n
unfolding node_count
no_nodes_counted size n nodes z e = rw (z, e) refl

pub nodes_counted : (l : List Bool) (size first : ℕ) (nodes : List Node) → 0 < length l → IsWidth (block_count size (length l)) (first + 1) → length nodes ≡ first + block_count size (length l) → length nodes ≡ node_count size (length l)
nodes_counted l size first nodes some w c = grind (arith, some_counted)

-- ---- the blocks
pub block_added : (l : List Bool) (size first n : ℕ) (nodes : List Node) (x : Node) → AreFirstBlocks l size first n nodes → IsPart l (n * size) (min (n * size + size) (length l)) x → AreFirstBlocks l size first (n + 1) (nodes ++ x ∷ [])
block_added l size first n nodes x b p =
    let c = b.counted in
    record {
      counted = let e = length-append nodes (x ∷ []) in omega arith;
      part = λ k h. ⊎_elim
          (λ (w : k < n). subst (λ (y : Node). IsPart l (k * size) (min (k * size + size) (length l)) y) (sym (get_or_append_left nodes (x ∷ []) empty_node (first + k) (omega arith))) (b.part k w))
          (λ (w : n ≤ k).
          let e : n ≡ k = omega arith in
          subst (λ (m : ℕ). IsPart l (m * size) (min (m * size + size) (length l)) (get_or (nodes ++ x ∷ []) (first + m) empty_node)) e
          (subst (λ (y : Node). IsPart l (n * size) (min (n * size + size) (length l)) y) (sym (get_or_at nodes x [] empty_node (first + n) c)) p))
          (cases_lt k n);
    }

-- where block k begins
pub begins_inside : (size n k leaves : ℕ) → leaves ≡ block_count size n → 0 < size → k < leaves → k * size < n
begins_inside size n k leaves e so h = grind (arith, div_ceil_times, mul-le-mul_right)

pub tree_made : (l : List Bool) (size first : ℕ) (nodes : List Node) → 0 < size → 0 < length l → length l < 2 ^ 63 → IsWidth (block_count size (length l)) (first + 1) → CoveredFrom l size first nodes 0 → IsTreeOf l size first nodes
tree_made l size first nodes so some short w c =
    let d = (div_ceil_times (length l) size so).0 in let p = w.power in
    let u : block_count size (length l) * size ≤ (first + 1) * size = mul-le-mul_right size w.enough in
    let k : digits first ≡ max 1 (clog (block_count size (length l))) = ap digits (omega arith) ∙ digits_below_pow (max 1 (clog (block_count size (length l)))) in
    let n = (some_counted size (length l) some).1 in
    record { tree = record { height = max 1 (clog (block_count size (length l))); levels = sym p; fits = omega arith; covered = c; some = so; short = short; small = omega arith }; few = omega arith }

-- what is written through a slice of a vector is what the vector holds
pub written_back : (new old : List Node) (n : ℕ) → n ≡ length new → take n (new ++ drop (length new) old) ≡ new
written_back new old n e = ap (λ (m : ℕ). take m (new ++ drop (length new) old)) e ∙ take-append_seam new _
