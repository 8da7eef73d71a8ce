-- The parts of the nodes of a tree, and what a node made of two gives.
use Rattle.vers_trees.proofs.Names.{◌≡◌, ℕ, zero, suc, ◌+◌, ◌-◌, ◌*◌, ◌/◌, ◌%◌, ◌^◌, ◌<◌, ◌≤◌, ◌⊎◌, inl, inr, Bool, List, length, ◌+ℤ◌, ◌≤ℤ◌, ◌<ℤ◌, arith, ⊎_elim, subst, refl, ap, ◌∙◌, pow-succ', pow-le-pow_right, pow_next, mul-le-mul_right, ints, cases_lt, excess, Node, combined, SumsFit, empty_node, IsPart, start_of, Covers, IsAbove}
use Rattle.vers_trees.proofs.searches.Scans.{part_joined, sums_fit}

-- a later block begins no earlier
pub starts_up : (l : List Bool) (size i e : ℕ) → i ≤ e → start_of l size i ≤ start_of l size e
starts_up l size i e h = grind (arith, ints, mul-le-mul_right)

-- the part of a node that begins inside the list has a position, and every part has the node's total
pub part_inside : (l : List Bool) (size i e : ℕ) (x : Node) → Covers l size i e x → i * size < length l → IsPart l (start_of l size i) (start_of l size e) x
part_inside l size i e x c h = grind arith

pub total_of_part : (l : List Bool) (size i e : ℕ) (x : Node) → Covers l size i e x → i ≤ e → excess l (start_of l size e) ≡ excess l (start_of l size i) +ℤ x.total
total_of_part l size i e x c h = grind (arith, starts_up)

-- the node over both of two neighbouring parts, of which the second may be empty
pub covers_joined : (l : List Bool) (size i m e : ℕ) (x y r : Node) → i ≤ m → m ≤ e → Covers l size i m x → Covers l size m e y → (y.least ≤ℤ y.greatest → r ≡ combined x y) → (y.greatest <ℤ y.least → r ≡ x) → Covers l size i e r
covers_joined l size i m e x y r im me c d both alone = grind (arith, ints, starts_up, part_joined, part_inside)

-- the sums of a node's two parts fit, where the second is not empty
pub children_fit : (l : List Bool) (size i m e : ℕ) (x y : Node) → length l < 2 ^ 63 → i ≤ m → Covers l size i m x → Covers l size m e y → y.least ≤ℤ y.greatest → SumsFit x y
children_fit l size i m e x y short im c d h = ⊎_elim
    (λ (q : IsPart l (start_of l size m) (start_of l size e) y). sums_fit l (start_of l size i) (start_of l size m) (start_of l size e) x y (total_of_part l size i m x c im) q short (starts_up l size i m im) (omega arith))
    (λ (q : (length l ≤ m * size) × (y ≡ empty_node)). let g = rw q.1 at h in absurd (omega (arith, ints)))
    d.part

-- ---- the parts of the nodes
pub record HasChildren (first i s e : ℕ) : Type 0 where
  pub middle : ℕ
  pub after : s ≤ middle
  pub before : middle ≤ e
  pub left : IsAbove first (2 * i + 1) s middle
  pub right : IsAbove first (2 * i + 2) middle e

pub stands_children : (first i s e : ℕ) → IsAbove first i s e → i < first → HasChildren first i s e
stands_children first i s e p h = go p.height refl
  where
    go : (k : ℕ) → p.height ≡ k → HasChildren first i s e
    go zero z = grind arith
    go (suc k) z =
        let pw : 2 ^ p.height ≡ 2 * 2 ^ k = ap (λ (n : ℕ). 2 ^ n) z ∙ pow-succ' 2 k in let pl2 = pow_next p.level in
        let lv' : 2 ^ (p.level + 1 + k) ≡ first + 1 = ap (λ (n : ℕ). 2 ^ n) (let g : p.level + 1 + k ≡ p.level + p.height = omega arith in g) ∙ p.levels in
        let fr' : s ≡ p.offset * (2 * 2 ^ k) = p.from ∙ ap (λ (n : ℕ). p.offset * n) pw in
        record {
          middle = 2 * p.offset * 2 ^ k + 2 ^ k;
          after = omega arith;
          before = omega arith;
          left = record { level = p.level + 1; height = k; offset = 2 * p.offset; levels = lv'; inside = omega arith; position = omega arith; from = omega arith; upto = omega arith };
          right = record { level = p.level + 1; height = k; offset = 2 * p.offset + 1; levels = lv'; inside = omega arith; position = omega arith; from = omega arith; upto = omega arith };
        }

-- the root's part is all
pub root : (first h : ℕ) → 2 ^ h ≡ first + 1 → IsAbove first 0 0 (first + 1)
root first h lv = grind (arith, ints)

-- every node above the leaves is over some part
pub stands_every : (first h : ℕ) → 2 ^ h ≡ first + 1 → (fuel i : ℕ) → i ≤ fuel → i ≤ 2 * first → (s : ℕ) × (e : ℕ) × IsAbove first i s e
stands_every first h lv fuel zero a b = (0, first + 1, root first h lv)
stands_every first h lv zero (suc i) a b = absurd (omega arith)
stands_every first h lv (suc fuel) (suc i) a b =
    let p = stands_every first h lv fuel (i / 2) (omega arith) (omega arith) in let c = stands_children first (i / 2) p.0 p.1 p.2 (omega arith) in
    ⊎_elim
    (λ (x : i % 2 < 1). (p.0, c.middle, subst (λ (n : ℕ). IsAbove first n p.0 c.middle) (omega arith) c.left))
    (λ (x : 1 ≤ i % 2). (c.middle, p.1, subst (λ (n : ℕ). IsAbove first n c.middle p.1) (omega arith) c.right))
    (cases_lt (i % 2) 1)

-- a node is among the nodes of a tree with first + 1 leaves
pub stands_within : (first i s e : ℕ) → IsAbove first i s e → i ≤ 2 * first
stands_within first i s e p = grind (arith, pow-le-pow_right)

-- a node has one part
pub order : (a b : ℕ) → 2 ^ a < 2 ^ (b + 1) → a ≤ b
order a b h = grind (arith, pow-le-pow_right)

one_part : (first i s e s' e' : ℕ) → IsAbove first i s e → IsAbove first i s' e' → (s ≡ s') × (e ≡ e')
one_part first i s e s' e' p q =
    let c = pow_next (p.level + p.height) in let d = pow_next (q.level + q.height) in grind (arith, ints, order, pow_next q.level, pow_next p.level)

-- the parent of a child, with its other child
parent_of : (first i j s e : ℕ) → IsAbove first i s e → (i ≡ 2 * j + 1) ⊎ (i ≡ 2 * j + 2) → (u : ℕ) × (v : ℕ) × IsAbove first j u v × HasChildren first j u v
parent_of first i j s e p is =
    let w = stands_within first i s e p in let q = stands_every first (p.level + p.height) p.levels j j (omega arith) (omega (arith, is)) in
    (q.0, q.1, q.2, stands_children first j q.0 q.1 q.2 (omega (arith, is)))

pub parent_of_left : (first j s e : ℕ) → IsAbove first (2 * j + 1) s e → (u : ℕ) × IsAbove first j s u × IsAbove first (2 * j + 2) e u × (e ≤ u)
parent_of_left first j s e p =
    let q = parent_of first (2 * j + 1) j s e p (inl refl) in let o = one_part first (2 * j + 1) _ _ _ _ p q.3.left in
    (q.1, rw (← o.0) at q.2, rw (← o.1) at q.3.right, rw (← o.1) at q.3.before)

pub parent_of_right : (first j s e : ℕ) → IsAbove first (2 * j + 2) s e → (u : ℕ) × IsAbove first j u e × IsAbove first (2 * j + 1) u s
parent_of_right first j s e p = grind (arith, ints, one_part, parent_of first (2 * j + 2) j s e p (inr refl))

pub stands_leaf : (first h k : ℕ) → 2 ^ h ≡ first + 1 → k ≤ first → IsAbove first (first + k) k (k + 1)
stands_leaf first h k lv b = record { level = h; height = 0; offset = k; levels = ap (λ (n : ℕ). 2 ^ n) (let g : h + 0 ≡ h = omega arith in g) ∙ lv; inside = omega arith; position = omega arith; from = omega arith; upto = omega arith }

pub leaf_stands : (first i s e : ℕ) → IsAbove first i s e → first ≤ i → (s ≡ i - first) × (e ≡ s + 1)
leaf_stands first i s e p h =
    let w = stands_within first i s e p in let g : first + (i - first) ≡ i = omega arith in
    let o = one_part first i _ _ _ _ p (rw g at (stands_leaf first (p.level + p.height) (i - first) p.levels (omega arith))) in (omega arith, omega arith)

pub root_stands : (first s e : ℕ) → IsAbove first 0 s e → (s ≡ 0) × (e ≡ first + 1)
root_stands first s e p = one_part first 0 _ _ _ _ p (root first (p.level + p.height) p.levels)
