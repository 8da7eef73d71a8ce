-- Scans over the bits of a part, by stretches: a bit, a byte or a word at a time.
use Rattle.vers_trees.proofs.Names.{◌≡◌, ◌≢◌, ℕ, ◌+◌, ◌-◌, ◌^◌, ◌<◌, ◌≤◌, ◌⊎◌, Bool, true, false, List, length, get_or, ℤ, pos, negsuc, ◌+ℤ◌, ◌-ℤ◌, ◌≤ℤ◌, FitsSigned, to_z, of_z, arith, ⊎_elim, refl, sym, ap, ◌∙◌, w64, ints, clamps, by_lt_z, to_z-of_z, cases_lt, Node, combined, SumsFit, excess, bit_step, count_near, count_up, IsPart, sum_past, IsBetween, up_to, IsRise, HasNoRise}
use Rattle.vers_trees.proofs.grammar.Excess.{excess_after_bit}

-- the excess changes by at most as much as there are positions between
pub rise_within : (l : List Bool) (i j n : ℕ) (z : ℤ) → excess l j ≡ excess l i +ℤ z → j ≤ i + n → i ≤ j + n → (z ≤ℤ pos n) × (negsuc n ≤ℤ z)
unfolding excess
rise_within l i j n z e a b = grind (arith, ints, cases_lt i j, count_up true l i j, count_up false l i j, count_near true l i j, count_near false l i j, count_up true l j i, count_up false l j i, count_near true l j i, count_near false l j i)

pub fits_small : (z : ℤ) → z ≤ℤ pos (2 ^ 63 - 1) → negsuc (2 ^ 63 - 1) ≤ℤ z → FitsSigned w64 z
fits_small z a b = grind (arith, ints)

-- between two positions of a list of fewer than 2^63 bits the excess rises by a number that fits
pub rise_fits : (l : List Bool) (i j : ℕ) (z : ℤ) → length l < 2 ^ 63 → i ≤ length l → j ≤ length l → excess l j ≡ excess l i +ℤ z → FitsSigned w64 z
rise_fits l i j z short a b e = grind (arith, ints, rise_within, fits_small)

pub rise_is : (l : List Bool) (i j : ℕ) (z : ℤ) → length l < 2 ^ 63 → i ≤ length l → j ≤ length l → excess l j ≡ excess l i +ℤ z → to_z w64 (of_z w64 z) ≡ z
rise_is l i j z short a b e = to_z-of_z w64 z (rise_fits l i j z short a b e)

pub step_fits : (b : Bool) (d : ℤ) → d ≡ bit_step b → FitsSigned w64 d
step_fits b d e = grind (arith, ints, fits_small)

-- what the machine has of a sum or a difference that was tested
pub rest_is : (f : ℤ → ℤ) (x b : ℤ) → FitsSigned w64 x → FitsSigned w64 (f (to_z w64 (of_z w64 x))) × (b ≡ f (to_z w64 (of_z w64 x))) → to_z w64 (of_z w64 b) ≡ f x
rest_is f x b h s = rw s.1 (to_z-of_z w64 _ s.0 ∙ ap f (to_z-of_z w64 x h))

-- ---- stretches: none of the positions that a search passes from p on to q has the sum t
abbrev pub Misses : (back : Bool) → List Bool → ℕ → ℕ → ℤ → Type 0
Misses back l p q t = (k : ℕ) → IsBetween back p q k → sum_past back l k ≢ t

-- what it passes on to q it passes on to p, or from there
pub split : (back : Bool) (from p q k : ℕ) → IsBetween back from q k → IsBetween back from p k ⊎ IsBetween back p q k
split back from p q k b = grind arith

pub joined : (back : Bool) (l : List Bool) (from p q : ℕ) (t : ℤ) → Misses back l from p t → Misses back l p q t → Misses back l from q t
joined back l from p q t m n k b = ⊎_elim (m k) (n k) (split back from p q k b)

-- past a stretch on which the excess rises by x or by d
pub found : (back : Bool) (l : List Bool) (from p position end : ℕ) (r rise x : ℤ) → HasNoRise back l from p r rise → IsBetween back from end position → Misses back l p (up_to back position) (excess l from +ℤ r) → sum_past back l position ≡ excess l p +ℤ x → rise +ℤ x ≡ r → IsRise back l from end r position
found back l from p position end r rise x h i m e z =
    record { between = i; sum = omega (arith, ints); first = joined back l from p (up_to back position) _ h.none m }

more : (back : Bool) (l : List Bool) (from p q : ℕ) (r rise d z : ℤ) → HasNoRise back l from p r rise → length l < 2 ^ 63 → from ≤ length l → q ≤ length l → excess l q ≡ excess l p +ℤ d → z ≡ rise +ℤ d → Misses back l p q (excess l from +ℤ r) → FitsSigned w64 z × HasNoRise back l from q r (to_z w64 (of_z w64 z))
more back l from p q r rise d z h short i j e n m =
    let sum : excess l q ≡ excess l from +ℤ (rise +ℤ d) = omega (arith, ints) in
    let f = rise_fits l from q (rise +ℤ d) short i j sum in rw n (f, rw (to_z-of_z w64 (rise +ℤ d) f) (record { risen = sum; none = joined back l from p q _ h.none m }))

-- the same with the rise of the list, as the code has it
pub forward_more : (l : List Bool) (from p q : ℕ) (r rise d : ℤ) → HasNoRise false l from p r rise → length l < 2 ^ 63 → from ≤ p → p ≤ q → q ≤ length l → excess l q ≡ excess l p +ℤ d → Misses false l p q (excess l from +ℤ r) → FitsSigned w64 (rise +ℤ to_z w64 (of_z w64 d)) × HasNoRise false l from q r (to_z w64 (of_z w64 (rise +ℤ to_z w64 (of_z w64 d))))
forward_more l from p q r rise d h short o i j e m = more false l from p q r rise d _ h short (omega arith) j e (ap (λ (z : ℤ). rise +ℤ z) (rise_is l p q d short (omega arith) j e)) m

pub backward_more : (l : List Bool) (p q end : ℕ) (r rise d : ℤ) → HasNoRise true l end q r rise → length l < 2 ^ 63 → p ≤ q → q ≤ end → end ≤ length l → excess l q ≡ excess l p +ℤ d → Misses true l q p (excess l end +ℤ r) → FitsSigned w64 (rise -ℤ to_z w64 (of_z w64 d)) × HasNoRise true l end p r (to_z w64 (of_z w64 (rise -ℤ to_z w64 (of_z w64 d))))
backward_more l p q end r rise d h short o i j e m = let n = rise_is l p q d short (omega arith) (omega arith) e in more true l end q p r rise (pos 0 -ℤ d) _ h short j (omega arith) (omega (arith, ints)) (omega (arith, ints)) m

-- past one bit
pub bit_is : (l : List Bool) (i j : ℕ) (b : Bool) (d : ℤ) → j ≡ i + 1 → i < length l → b ≡ get_or l i false → d ≡ bit_step b → excess l j ≡ excess l i +ℤ d
bit_is l i j b d n h e q = ap (excess l) n ∙ excess_after_bit l i false h ∙ ap (λ (z : ℤ). excess l i +ℤ z) (sym (q ∙ ap bit_step e))

-- the sum past it fits, its position has the sum that is looked for, or there is still none
pub forward_bit : (l : List Bool) (from p end : ℕ) (r rise d : ℤ) (b : Bool) → HasNoRise false l from p r rise → length l < 2 ^ 63 → from ≤ p → p < end → end ≤ length l → b ≡ get_or l p false → d ≡ bit_step b
    → FitsSigned w64 (rise +ℤ to_z w64 (of_z w64 d)) × (rise +ℤ to_z w64 (of_z w64 d) ≡ r → IsRise false l from end r p) × ((rise +ℤ to_z w64 (of_z w64 d) ≡ r → ⊥) → HasNoRise false l from (p + 1) r (to_z w64 (of_z w64 (rise +ℤ to_z w64 (of_z w64 d)))))
forward_bit l from p end r rise d b h short o i j e q =
    let t = to_z-of_z w64 d (step_fits b d q) in let s = bit_is l p (p + 1) b d refl (omega arith) e q in (
      rw t (rise_fits l from (p + 1) (rise +ℤ d) short (omega arith) (omega arith) (omega (arith, ints))),
      λ z. found false l from p p end r rise d h (o, i) (λ k x. absurd (omega arith)) s (rw t at z),
      λ ne. (forward_more l from p (p + 1) r rise d h short o (omega arith) (omega arith) s (λ k x z. let same : excess l (k + 1) ≡ excess l (p + 1) = ap (excess l) (omega arith) in ne (rw t (omega (arith, ints))))).1,
    )

pub backward_bit : (l : List Bool) (from p q end : ℕ) (r rise d : ℤ) (b : Bool) → HasNoRise true l end q r rise → length l < 2 ^ 63 → from ≤ p → q ≤ end → end ≤ length l → q ≡ p + 1 → b ≡ get_or l p false → d ≡ bit_step b
    → FitsSigned w64 (rise -ℤ to_z w64 (of_z w64 d)) × (rise -ℤ to_z w64 (of_z w64 d) ≡ r → IsRise true l end from r p) × ((rise -ℤ to_z w64 (of_z w64 d) ≡ r → ⊥) → HasNoRise true l end p r (to_z w64 (of_z w64 (rise -ℤ to_z w64 (of_z w64 d)))))
backward_bit l from p q end r rise d b h short o i j n e g =
    let t = to_z-of_z w64 d (step_fits b d g) in let s = bit_is l p q b d n (omega arith) e g in (
      rw t (rise_fits l end p (rise -ℤ d) short j (omega arith) (omega (arith, ints))),
      λ z. found true l end q p from r rise (pos 0 -ℤ d) h (o, omega arith) (λ k u. absurd (omega arith)) (omega (arith, ints)) (omega (arith, ints)),
      λ ne. (backward_more l p q end r rise d h short (omega arith) i j s (λ k x z. let same : excess l k ≡ excess l p = ap (excess l) (omega arith) in ne (rw t (omega (arith, ints))))).1,
    )

-- ---- the node of a part
pub part_start : (l : List Bool) (a : ℕ) (d : ℤ) → excess l (a + 1) ≡ excess l a +ℤ d → IsPart l a (a + 1) (record { total = d; least = d; greatest = d })
part_start l a d s = grind arith

-- the node over two neighbouring parts
pub part_joined : (l : List Bool) (a m b : ℕ) (x y : Node) → IsPart l a m x → IsPart l m b y → IsPart l a b (combined x y)
part_joined l a m b x y p q =
    record {
      total = omega (arith, ints);
      low = λ j u v. grind (arith, ints, clamps);
      high = λ j u v. grind (arith, ints, clamps, cases_lt m j, q.high j, p.high j);
      least = by_lt_z (x.total +ℤ y.least) x.least
          (λ w. (q.least.0, omega arith, q.least.2, omega (arith, ints, clamps)))
          (λ w. (p.least.0, p.least.1, omega arith, omega (arith, ints, clamps)));
      greatest = by_lt_z x.greatest (x.total +ℤ y.greatest)
          (λ w. (q.greatest.0, omega arith, q.greatest.2, omega (arith, ints, clamps)))
          (λ w. (p.greatest.0, p.greatest.1, omega arith, omega (arith, ints, clamps)));
    }

-- the sums of both fit
pub sums_fit : (l : List Bool) (a m b : ℕ) (x y : Node) → excess l m ≡ excess l a +ℤ x.total → IsPart l m b y → length l < 2 ^ 63 → a ≤ m → b ≤ length l → SumsFit x y
sums_fit l a m b x y t h short o i =
    let j = h.least.1 in let u = h.least.2 in let s = h.least.3 in let k = h.greatest.1 in let v = h.greatest.2 in let r = h.greatest.3 in let w = h.total in
    record {
      total = rise_fits l a b (x.total +ℤ y.total) short (omega arith) i (omega (arith, ints));
      least = rise_fits l a h.least.0 (x.total +ℤ y.least) short (omega arith) (omega arith) (omega (arith, ints));
      greatest = rise_fits l a h.greatest.0 (x.total +ℤ y.greatest) short (omega arith) (omega arith) (omega (arith, ints));
    }
