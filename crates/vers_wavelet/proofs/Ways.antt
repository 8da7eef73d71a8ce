-- The way down of a walk by size, and that a list of symbols has one list of levels.
use Rattle.vers_wavelet.proofs.Names.{◌≡◌, ℕ, ◌-◌, ◌<◌, ◌≤◌, Bool, false, List, [], ◌∷◌, length, get_or, set, get_or-set_same, get_or-set_other, refl, sym, ap, ◌∙◌, subst, arith, inl, inr, cases_eq, same_lists, slice_range, any_default, next, value, values, AllHaveLength, AreLevels, IsKthInRange, by_size, IsNode, IsWay}
use Rattle.vers_wavelet.specs.declared.wavelet.way.Node.{Node}
use Rattle.vers_wavelet.specs.declared.wavelet.way.Way.{Way}
use Rattle.vers_wavelet.proofs.Digits.{room_none}
use Rattle.vers_wavelet.proofs.Values.{from_above}
use Rattle.vers_wavelet.proofs.Steps.{value_parts, even_first, even_rest, reduces_none}
use Rattle.vers_wavelet.proofs.Lists.{length-values, get_or-values, kth_is}
use Rattle.vers_wavelet.proofs.BySize.{kth_position}
use Rattle.vers_wavelet.proofs.Items.{sorted_element}

-- ---- one list of levels

same_parts : (l m : List Bool) (ls ms : List (List Bool)) (i : ℕ) → length ls ≡ length ms → value (l ∷ ls) i ≡ value (m ∷ ms) i
    → (get_or l i false ≡ get_or m i false) × (value ls (next (get_or l i false) l i) ≡ value ms (next (get_or m i false) m i))
same_parts l m ls ms i long same =
    let first = value_parts l ls i _ refl in
    let second = value_parts m ms i _ refl in
    (cc (first.0, second.0), cc (first.1, second.1))

same_levels : (ls ms : List (List Bool)) (n : ℕ) → AllHaveLength ls n → AllHaveLength ms n → length ls ≡ length ms → ((p : ℕ) → p < n → value ls p ≡ value ms p) → ls ≡ ms
same_levels [] [] n even other long same = refl
same_levels [] (m ∷ ms) n even other long same = absurd (omega arith)
same_levels (l ∷ ls) [] n even other long same = absurd (omega arith)
same_levels (l ∷ ls) (m ∷ ms) n even other long same =
    let e : length ls ≡ length ms = omega arith in
    let here : length l ≡ n = even_first l ls n even in
    let there : length m ≡ n = even_first m ms n other in
    let first : l ≡ m = same_lists l m (here ∙ sym there) (λ i d h.
    any_default l i d false h ∙ (same_parts l m ls ms i e (same i (omega (arith, h, here)))).0 ∙ any_default m i false d (omega (arith, h, here, there))) in
    let rest : ls ≡ ms = same_levels ls ms n (even_rest l ls n even) (even_rest m ms n other) e (λ p h.
    let a = from_above l p (omega (arith, h, here)) in
    ap (value ls) (sym a.2) ∙ (same_parts l m ls ms a.0 e (same a.0 (omega (arith, a.1, here)))).1
    ∙ ap (λ v. value ms (next (get_or v a.0 false) v a.0)) (sym first) ∙ ap (value ms) a.2) in
    ap (λ v. v ∷ ls) first ∙ ap (λ vs. m ∷ vs) rest

-- a way through some levels is one through all that write the same symbols down
pub same_way : {ls ms : List (List Bool)} {n m : ℕ} {way : Way} → AreLevels ls n → AreLevels ms m → length ms ≡ length ls → values ms m ≡ values ls n → IsWay ls n way → IsWay ms m way
same_way {ls} {ms} {n} {m} {way} levels others long same is =
    let e : n ≡ m = sym (length-values ls n) ∙ ap length (sym same) ∙ length-values ms m in
    let even : AllHaveLength ms n = subst (λ (k : ℕ). AllHaveLength ms k) (sym e) others.even in
    let f : ls ≡ ms = same_levels ls ms n levels.even even (sym long) (λ p h.
    sym (get_or-values ls n p 0 h) ∙ ap (λ xs. get_or xs p 0) (sym same) ∙ get_or-values ms m p 0 (omega (arith, h, e))) in
    subst (λ (k : ℕ). IsWay ms k way) e (subst (λ (vs : List (List Bool)). IsWay vs n way) f is)

-- ---- nodes

pub node_none : (ls : List (List Bool)) (n k : ℕ) → length ls ≤ 64 → IsNode ls n k (record { start = 0; end = 0; from = 0; number = 0 })
node_none ls n k few = record {
  order = omega arith;
  within = omega arith;
  room = room_none 64 (length ls - k) (omega arith);
  reduced = λ j. record { each = λ x small kth. absurd (omega (arith, kth.more)) };
}

pub node_all : (ls : List (List Bool)) (n : ℕ) → length ls ≤ 64 → IsNode ls n 0 (record { start = 0; end = n; from = 0; number = 0 })
node_all ls n few = record {
  order = omega arith;
  within = omega arith;
  room = room_none 64 (length ls - 0) (omega arith);
  reduced = λ j. reduces_none ls 0 n _ j _ (omega arith) refl;
}

-- one node more
pub nodes_set : (ls : List (List Bool)) (n k : ℕ) (nodes : List Node) (node : Node) → k < length nodes
    → ((j : ℕ) (d : Node) → j < 64 → IsNode ls n j (get_or nodes j d)) → IsNode ls n k node
    → (j : ℕ) (d : Node) → j < 64 → IsNode ls n j (get_or (set nodes k node) j d)
nodes_set ls n k nodes node inside each is j d h =
    elim (cases_eq j k) [
      | inl same ↦ rw same (rw (get_or-set_same nodes k node d inside) is)
      | inr other ↦ rw (get_or-set_other nodes k j node d other) (each j d h)
    ]

-- element i of the levels is that of the symbols by size
pub sorted_kth : (ls : List (List Bool)) (n i x : ℕ) → IsKthInRange ls 0 n i x → x ≡ get_or (by_size (values ls n)) i 0
sorted_kth ls n i x kth =
    sorted_element (values ls n) i x n (sym (length-values ls n))
    (kth_position (slice_range (values ls n) 0 n) i x ((kth_is ls n 0 n i x (omega arith) (omega arith)).0 kth))
