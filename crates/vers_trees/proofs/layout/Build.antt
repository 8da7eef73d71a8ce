-- Building a tree of excesses from its leaves up to its root.
use Rattle.vers_trees.proofs.Names.{◌≡◌, ℕ, ◌+◌, ◌-◌, ◌*◌, ◌^◌, ◌<◌, ◌≤◌, ◌↔◌, inl, inr, min, Bool, List, [], ◌∷◌, length, get_or, set, ◌≤ℤ◌, ◌<ℤ◌, arith, ⊎_elim, subst, sym, refl, ap, ◌∙◌, cases_lt, get_or_past, get_or-set_same, get_or-set_other, eq-or-lt_of_le, mul-le-mul_right, div_ceil_times, Node, combined, SumsFit, empty_node, IsPart, start_of, Covers, IsAbove, CoveredFrom, AreLeaves, AreFirstBlocks, block_count, IsLevel, IsBalanced, IsIndexed}
use Rattle.vers_trees.proofs.layout.MinMax.{HasChildren, stands_children, stands_every, leaf_stands, root, part_inside, covers_joined, children_fit}
pub use Rattle.vers_trees.proofs.layout.Blocks.{balanced_iff_root, balance_decides}

-- if the blocks' nodes are from `first` on, the leaves cover the blocks
pub leaves_covered : (l : List Bool) (size first : ℕ) (nodes : List Node) → 0 < size → length l < 2 ^ 63 → AreFirstBlocks l size first (block_count size (length l)) nodes → AreLeaves l size first nodes
leaves_covered l size first nodes so short b = record { short = short; covered = covered }
  where
    covered : CoveredFrom l size first nodes first
    covered m s e h p =
        let q = leaf_stands first m s e p h in let q1 = q.1 in let d = div_ceil_times (length l) size so in
        let position : first + s ≡ m = omega arith in ⊎_elim
        (λ (w : s < block_count size (length l)).
        let u : (s + 1) * size ≤ block_count size (length l) * size = mul-le-mul_right size (omega arith) in
        let x : start_of l size s ≡ s * size = omega arith in let y : start_of l size e ≡ min (s * size + size) (length l) = rw q1 (omega arith) in
        record { part = inl (rw (x, y, ← position) (b.part s w)) })
        (λ (w : block_count size (length l) ≤ s).
        record { part = inr (omega (arith, mul-le-mul_right size w), get_or_past nodes m empty_node (omega arith)) })
        (cases_lt s (block_count size (length l)))

pub same_node : (a b : Node) → a.total ≡ b.total → a.least ≡ b.least → a.greatest ≡ b.greatest → a ≡ b
same_node a b p q r = λ i. record { total = p i; least = q i; greatest = r i }

-- the loop goes down from i to i - 1, with the children of node i - 1 as the code has them
module _ (l : List Bool) (size first : ℕ) (nodes : List Node) (i : ℕ) (x y : Node) (some : 0 < i) (top : i ≤ first) (c : CoveredFrom l size first nodes i) (ex : x ≡ get_or nodes (2 * (i - 1) + 1) empty_node) (ey : y ≡ get_or nodes (2 * (i - 1) + 2) empty_node) where
  left_covers : (s e : ℕ) (k : HasChildren first (i - 1) s e) → Covers l size s k.middle x
  left_covers s e k = rw ex (c (2 * (i - 1) + 1) s k.middle (omega arith) k.left)

  right_covers : (s e : ℕ) (k : HasChildren first (i - 1) s e) → Covers l size k.middle e y
  right_covers s e k = rw ey (c (2 * (i - 1) + 2) k.middle e (omega arith) k.right)

  pub code_fits : (h : ℕ) → 2 ^ h ≡ first + 1 → length l < 2 ^ 63 → y.least ≤ℤ y.greatest → SumsFit x y
  code_fits h lv short =
      let p = stands_every first h lv (i - 1) (i - 1) (omega arith) (omega arith) in
      let k = stands_children first (i - 1) p.0 p.1 p.2 (omega arith) in
      children_fit l size p.0 k.middle p.1 x y short k.after (left_covers p.0 p.1 k) (right_covers p.0 p.1 k)

  pub code_step : (r : Node) → i ≤ length nodes → (y.least ≤ℤ y.greatest → r ≡ combined x y) → (y.greatest <ℤ y.least → r ≡ x) → CoveredFrom l size first (set nodes (i - 1) r) (i - 1)
  code_step r n both alone m s e a p = ⊎_elim
      (λ (z : i - 1 ≡ m).
      let k = stands_children first (i - 1) s e (subst (λ (n : ℕ). IsAbove first n s e) (sym z) p) (omega arith) in
      let same : get_or (set nodes (i - 1) r) m empty_node ≡ r = ap (λ (n : ℕ). get_or (set nodes (i - 1) r) n empty_node) (sym z) ∙ get_or-set_same nodes (i - 1) r empty_node (omega arith) in
      rw same (covers_joined l size s k.middle e x y r k.after k.before (left_covers s e k) (right_covers s e k) both alone))
      (λ (z : i - 1 < m). rw (get_or-set_other nodes (i - 1) m r empty_node (omega arith)) (c m s e (omega arith) p))
      (eq-or-lt_of_le a)

-- ---- the node over all blocks determines whether the list is balanced
pub balanced_iff_level : (l : List Bool) (size first : ℕ) (nodes : List Node) (x : Node) → IsIndexed l size first nodes → 0 < length l → x ≡ get_or nodes 0 empty_node → IsBalanced l ↔ IsLevel x
balanced_iff_level l size first nodes x i some e =
    let m = (i.over some).tree in
    let c : Covers l size 0 (first + 1) x = rw e (m.covered 0 0 (first + 1) (omega arith) (root first m.height m.levels)) in
    let p = part_inside l size 0 (first + 1) x c (omega arith) in
    let from : start_of l size 0 ≡ 0 = omega arith in let upto : start_of l size (first + 1) ≡ length l = omega arith in
    balanced_iff_root l x (subst (λ (n : ℕ). IsPart l n (length l) x) from (subst (λ (n : ℕ). IsPart l (start_of l size 0) n x) upto p))

pub some_bits : (l : List Bool) → (l ≡ [] → ⊥) → 0 < length l
some_bits [] h = absurd (h refl)
some_bits (x ∷ l) h = omega arith
