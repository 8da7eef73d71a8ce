-- What a node determines of the positions of its part.
use Rattle.vers_trees.proofs.Names.{◌≡◌, ℕ, zero, suc, ◌+◌, ◌-◌, ◌*◌, ◌<◌, ◌≤◌, ◌≢◌, ◌↔◌, Bool, true, false, List, length, ℤ, pos, ◌+ℤ◌, ◌-ℤ◌, ◌≤ℤ◌, arith, ⊎_elim, subst, refl, ap, ◌∙◌, ◌^◌, FitsSigned, w64, ints, clamps, by_lt_z, cases_lt, eq-or-lt_of_le, Node, excess, sum_past, IsBalanced, empty_node, IsPart, start_of, Covers, Sought, target, edge, Passed, HasPosition, HasNone, IsInRange, IsInRangeOrStart, IsLevel, IsMet, left_past}
use Rattle.vers_trees.proofs.grammar.Excess.{IsWalk, turned, excess-zero, excess-is_walk}
pub use Rattle.vers_trees.proofs.grammar.Grammar.{balance_decides, closes_from_excess, balanced_total, balanced_above}
use Rattle.vers_trees.proofs.layout.MinMax.{starts_up, part_inside, total_of_part}
pub use Rattle.vers_trees.proofs.searches.Scans.{rise_fits, joined, rest_is}

-- a walk takes each value between two of its values
met_upward : (f : ℕ → ℤ) → IsWalk f → (t : ℤ) (a d b : ℕ) → b ≡ a + d → f a ≤ℤ t → t ≤ℤ f b → (j : ℕ) × (a ≤ j) × (j ≤ b) × (f j ≡ t)
met_upward f w t a zero b e lo hi = let same : f b ≡ f a = ap f (omega arith) in (b, omega arith, omega arith, omega (arith, ints))
met_upward f w t a (suc d) b e lo hi =
    let s = w.up (a + d) in let same : f b ≡ f (a + d + 1) = ap f (omega arith) in
    by_lt_z (f (a + d)) t
    (λ x. (b, omega arith, omega arith, omega (arith, ints)))
    (λ x. let r = met_upward f w t a d (a + d) refl lo x in (r.0, r.1, omega arith, r.3))

part_meets : (l : List Bool) (a b : ℕ) (x : Node) (t : ℤ) → IsPart l a b x → (excess l a +ℤ x.least) ≤ℤ t → t ≤ℤ (excess l a +ℤ x.greatest) → (j : ℕ) × (a < j) × (j ≤ b) × (excess l j ≡ t)
part_meets l a b x t p lo hi = let i = p.least in let j = p.greatest in ⊎_elim
    (λ (h : i.0 < j.0). let r = met_upward (excess l) (excess-is_walk l) t i.0 (j.0 - i.0) j.0 (omega arith) (omega (arith, ints)) (omega (arith, ints)) in (r.0, omega arith, omega arith, r.3))
    (λ (h : j.0 ≤ i.0). let r = met_upward (λ i. pos 0 -ℤ excess l i) (turned (excess l) (excess-is_walk l)) (pos 0 -ℤ t) j.0 (i.0 - j.0) i.0 (omega arith) (omega (arith, ints)) (omega (arith, ints)) in (r.0, omega arith, omega arith, omega (arith, ints)))
    (cases_lt i.0 j.0)

-- ---- what a node determines of its part
-- a node that is met backwards has the sum before a position of its part, which may be the part's first and isn't the one past it
part_meets_before : (l : List Bool) (a b : ℕ) (x : Node) (t left : ℤ) → IsPart l a b x → excess l b +ℤ left ≡ t → excess l b ≢ t → IsInRangeOrStart x (left +ℤ x.total) → (k : ℕ) × (a ≤ k) × (k < b) × (excess l k ≡ t)
part_meets_before l a b x t left p q n i =
    let lo = p.low (a + 1) (omega arith) (omega arith) in let hi = p.high (a + 1) (omega arith) (omega arith) in
    let u = (excess-is_walk l).up a in let d = (excess-is_walk l).down a in
    by_lt_z (left +ℤ x.total) x.least
    (λ y. (a, omega arith, omega arith, omega (arith, ints, clamps)))
    (λ y. by_lt_z x.greatest (left +ℤ x.total)
    (λ z. (a, omega arith, omega arith, omega (arith, ints, clamps)))
    (λ z.
    let j = part_meets l a b x t p (omega (arith, ints)) (omega (arith, ints)) in
    (j.0, omega arith, ⊎_elim (λ (e : j.0 ≡ b). absurd (n (subst (λ (m : ℕ). excess l m ≡ t) e j.3))) (λ (h : j.0 < b). h) (eq-or-lt_of_le j.2), j.3)))

-- where a node over the blocks from i up to e, before which a search has passed all, is met, a position of them has the sum
pub position_in : (back : Bool) (s : Sought) (i e : ℕ) (x : Node) (left : ℤ) → Covers s.bits s.size i e x → i ≤ e → Passed back s (start_of s.bits s.size (edge back i e)) left → IsMet back x left → HasPosition back s i e
position_in false s i e x left c le p m = ⊎_elim
    (λ (q : IsPart s.bits (start_of s.bits s.size i) (start_of s.bits s.size e) x).
    let j = part_meets s.bits _ _ x (target s) q (omega (arith, ints)) (omega (arith, ints)) in
    (j.0 - 1, omega arith, omega arith, ap (excess s.bits) (omega arith) ∙ j.3))
    (λ (q : (length s.bits ≤ i * s.size) × (x ≡ empty_node)). let g = subst (λ (y : Node). IsInRange y left) q.1 m in absurd (omega (arith, ints)))
    c.part
position_in true s i e x left c le p m =
    let u = starts_up s.bits s.size i e le in
    part_meets_before s.bits _ _ x (target s) left (part_inside s.bits s.size i e x c (omega arith)) p.remains (p.none (start_of s.bits s.size e) (omega arith, p.after)) m

-- and where a position has it the node is met
met_by_position : (back : Bool) (s : Sought) (i e : ℕ) (x : Node) (left : ℤ) → Covers s.bits s.size i e x → Passed back s (start_of s.bits s.size (edge back i e)) left → HasPosition back s i e → IsMet back x left
met_by_position false s i e x left c p f = grind (arith, ints, part_inside)
met_by_position true s i e x left c p f =
    let q = part_inside s.bits s.size i e x c (omega arith) in grind (arith, ints, clamps, eq-or-lt_of_le f.1, q.low f.0, q.high f.0)

-- where it isn't met the search passes it
pub passed_over : (back : Bool) (s : Sought) (i e : ℕ) (x : Node) (left : ℤ) → Covers s.bits s.size i e x → i ≤ e → Passed back s (start_of s.bits s.size (edge back i e)) left → (IsMet back x left → ⊥) → Passed back s (start_of s.bits s.size (edge back e i)) (left_past back left x)
passed_over false s i e x left c le p o =
    let u = starts_up s.bits s.size i e le in let t = total_of_part s.bits s.size i e x c le in
    record { inside = p.inside; after = omega arith; remains = omega (arith, ints); none = joined false s.bits s.from (start_of s.bits s.size (edge false i e)) (start_of s.bits s.size (edge false e i)) (target s) p.none (λ k b q. o (met_by_position false s i e x left c p (k, b.0, b.1, q))) }
passed_over true s i e x left c le p o =
    let u = starts_up s.bits s.size i e le in record { inside = p.inside; after = omega arith; remains = omega (arith, ints); none = joined true s.bits s.from (start_of s.bits s.size (edge true i e)) (start_of s.bits s.size (edge true e i)) (target s) p.none (λ k b q. o (met_by_position true s i e x left c p (k, b.0, b.1, q))) }

-- what is left to a position that has the sum fits, and where what would be left at some position doesn't, no position has it
pub left_fits : (back : Bool) (s : Sought) (p : ℕ) (left : ℤ) (k : ℕ) → length s.bits < 2 ^ 63 → p ≤ length s.bits → excess s.bits p +ℤ left ≡ target s → k < length s.bits → sum_past back s.bits k ≡ target s → FitsSigned w64 left
left_fits back s p left k short i r h q = grind (arith, ints, rise_fits)

pub too_far : (back : Bool) (s : Sought) (p q : ℕ) (left rest : ℤ) → length s.bits < 2 ^ 63 → Passed back s p left → q ≤ length s.bits → excess s.bits q +ℤ rest ≡ target s → (FitsSigned w64 rest → ⊥) → HasNone back s
too_far false s p q left rest short h i r long = λ k a b e. long (left_fits false s q rest k short i r b e)
too_far true s p q left rest short h i r long = λ k a e. long (left_fits true s q rest k short i r (omega arith) e)

-- the node over the whole list determines whether it is balanced
pub balanced_iff_root : (l : List Bool) (x : Node) → IsPart l 0 (length l) x → IsBalanced l ↔ IsLevel x
balanced_iff_root l x p =
    let z = excess-zero l in (
      λ b. let s = balanced_total l b in let i = p.least in let a = balanced_above l b i.0 i.2 in record { total = omega (arith, ints); least = omega (arith, ints) },
      λ h. (balance_decides l).0 (closes_from_excess l 0 (λ i u. grind (arith, ints)) (omega (arith, ints))),
    )
