-- The node of a part, made up from those of its words, bytes and bits.
use Rattle.vers_trees.proofs.Names.{◌≡◌, ℕ, ◌+◌, ◌-◌, ◌*◌, ◌/◌, ◌%◌, ◌^◌, ◌<◌, ◌≤◌, ◌⊎◌, inl, inr, Bool, false, List, length, pos, negsuc, ◌+ℤ◌, ◌-ℤ◌, ◌≤ℤ◌, arith, ⊎_elim, sym, subst, ap, ◌∙◌, count_ones, ints, clamps, int_min, int_max, number_below, part, excess, Node, empty_node, combined, SumsFit, IsPart, IsNumberAt, IsByte, IsEntry, least_in, greatest_in}
use Rattle.vers_trees.proofs.grammar.Excess.{excess-zero, excess-is_walk}
use Rattle.vers_trees.proofs.searches.Scans.{part_joined, sums_fit}
use Rattle.vers_trees.proofs.searches.ByteScans.{length-part, excess-part, excess-number, byte_of_word, entry_ordered}

-- x is the node of the positions from a up to p, or of none
pub record IsSoFar (l : List Bool) (a p : ℕ) (x : Node) : Type 0 where
  pub part : ((a ≡ p) × (x ≡ empty_node)) ⊎ IsPart l a p x

pub none_so_far : (l : List Bool) (a p : ℕ) (x : Node) → a ≡ p → x ≡ empty_node → IsSoFar l a p x
none_so_far l a p x e n = record { part = inl (e, n) }

pub all_so_far : (l : List Bool) (a p q : ℕ) (x : Node) → IsSoFar l a p x → p ≡ q → a < q → IsPart l a q x
all_so_far l a p q x s e some = ⊎_elim (λ (n : (a ≡ p) × (x ≡ empty_node)). absurd (let z = n.0 in omega arith)) (λ (k : IsPart l a p x). subst (λ (n : ℕ). IsPart l a n x) e k) s.part

total_so_far : (l : List Bool) (a p : ℕ) (x : Node) → IsSoFar l a p x → excess l p ≡ excess l a +ℤ x.total
total_so_far l a p x s = ⊎_elim
    (λ (q : (a ≡ p) × (x ≡ empty_node)). let e = ap (excess l) q.0 in let t = ap (λ (y : Node). y.total) q.1 in omega (arith, ints))
    (λ (q : IsPart l a p x). q.total)
    s.part

-- the sums of the next part fit
pub next_fits : (l : List Bool) (a p q : ℕ) (x y : Node) → IsSoFar l a p x → IsPart l p q y → length l < 2 ^ 63 → a ≤ p → q ≤ length l → SumsFit x y
next_fits l a p q x y s h short o i = sums_fit l a p q x y (total_so_far l a p x s) h short o i

-- the first sum of a part is at most 1 and at least -1
near_start : (l : List Bool) (a p : ℕ) (x : Node) → IsPart l a p x → (x.least ≤ℤ pos 1) × (negsuc 0 ≤ℤ x.greatest)
near_start l a p x q =
    let w = excess-is_walk l in let b = q.least.1 in let c = q.least.2 in
    let u = w.up a in let d = w.down a in let m = q.low (a + 1) (omega arith) (omega arith) in let n = q.high (a + 1) (omega arith) (omega arith) in
    (omega (arith, ints), omega (arith, ints))

-- so the node after none is the same
after_none : (l : List Bool) (p q : ℕ) (y : Node) → IsPart l p q y → IsPart l p q (combined empty_node y)
after_none l p q y h =
    let n = near_start l p q y h in let a = n.0 in let b = n.1 in
    let total : pos 0 +ℤ y.total ≡ y.total = omega (arith, ints) in
    let least : int_min (pos 1) (pos 0 +ℤ y.least) ≡ y.least = omega (arith, ints, clamps) in
    let greatest : int_max (negsuc 0) (pos 0 +ℤ y.greatest) ≡ y.greatest = omega (arith, ints, clamps) in
    record {
      total = rw total h.total;
      low = rw least h.low;
      high = rw greatest h.high;
      least = rw least h.least;
      greatest = rw greatest h.greatest;
    }

pub more_so_far : (l : List Bool) (a p q : ℕ) (x y r : Node) → IsSoFar l a p x → IsPart l p q y → r ≡ combined x y → IsSoFar l a q r
more_so_far l a p q x y r s h e = record {
  part = inr (rw e (⊎_elim
      (λ (n : (a ≡ p) × (x ≡ empty_node)). rw (n.0, n.1) (after_none l p q y h))
      (λ (k : IsPart l a p x). part_joined l a p q x y k h)
      s.part));
}

-- ---- the node of a byte
at : (l : List Bool) (p n : ℕ) (x : Node) → p + n ≤ length l → IsPart (part l p n) 0 n x → IsPart l p (p + n) x
at l p n x h q =
    let z = excess-zero (part l p n) in
    let along = λ (j : ℕ) (u : p < j) (v : j ≤ p + n). excess-part l p n (j - p) h (omega arith) in
    let same = λ (j : ℕ) (u : p < j). ap (excess l) (let g : p + (j - p) ≡ j = omega arith in g) in
    record {
      total = let t = q.total in omega (arith, ints, excess-part l p n n h (omega arith));
      low = λ j u v. let e = along j u v in let s = same j u in let b = q.low (j - p) (omega arith) (omega arith) in omega (arith, ints);
      high = λ j u v. let e = along j u v in let s = same j u in let b = q.high (j - p) (omega arith) (omega arith) in omega (arith, ints);
      least = let i = q.least.1 in let b = q.least.2 in let t = q.least.3 in (p + q.least.0, omega arith, omega arith, omega (arith, ints, excess-part l p n q.least.0 h b));
      greatest = let i = q.greatest.1 in let b = q.greatest.2 in let t = q.greatest.3 in (p + q.greatest.0, omega arith, omega arith, omega (arith, ints, excess-part l p n q.greatest.0 h b));
    }

of_entry : (bits : List Bool) (byte entry : ℕ) (x : Node) → IsByte bits byte → IsEntry false bits entry → x.total ≡ pos (2 * count_ones byte) -ℤ pos 8 → x.least ≡ pos (least_in entry) -ℤ pos 8 → x.greatest ≡ pos (greatest_in entry) -ℤ pos 8 → IsPart bits 0 8 x
of_entry bits byte entry x is e t u v =
    let z = excess-zero bits in let o = entry_ordered false bits entry e in
    let n = excess-number bits 8 (omega arith) is.eight in let c = ap count_ones is.valued in
    let same = λ (j : ℕ) (i : 0 < j). ap (excess bits) (let g : j - 1 + 1 ≡ j = omega arith in g) in
    let a = e.met (least_in entry) (omega arith) o in let b = e.met (greatest_in entry) o (omega arith) in
    let f = a.sum in let g = b.sum in let h = a.within in let k = b.within in record {
      total = omega (arith, ints);
      low = λ j i k. let s = same j i in let w = e.low (j - 1) (omega arith) in omega (arith, ints);
      high = λ j i k. let s = same j i in let w = e.high (j - 1) (omega arith) in omega (arith, ints);
      least = (a.step + 1, omega arith, omega arith, omega (arith, ints));
      greatest = (b.step + 1, omega arith, omega arith, omega (arith, ints));
    }

pub byte_part : (l : List Bool) (p byte entry : ℕ) (x : Node) → IsNumberAt l p 8 byte → ((bits : List Bool) → IsByte bits byte → IsEntry false bits entry) → x.total ≡ pos (2 * count_ones byte) -ℤ pos 8 → x.least ≡ pos (least_in entry) -ℤ pos 8 → x.greatest ≡ pos (greatest_in entry) -ℤ pos 8 → IsPart l p (p + 8) x
byte_part l p byte entry x is e t u v =
    let b : IsByte (part l p 8) byte = record { eight = length-part l p 8 is.within; valued = sym is.valued } in
    at l p 8 x is.within (of_entry (part l p 8) byte entry x b (e _ b) t u v)

-- byte k of a word
pub byte_at : (l : List Bool) (p word k : ℕ) → IsNumberAt l p 64 word → k < 8 → IsNumberAt l (p + 8 * k) 8 (word / 2 ^ (8 * k) % 256)
byte_at l p word k is i = record {
  within = let w = is.within in omega arith;
  valued = ap (λ (n : ℕ). n / 2 ^ (8 * k) % 256) is.valued ∙ byte_of_word l p 64 (8 * k) (omega arith) is.within;
}

pub byte_small : (l : List Bool) (p byte : ℕ) → IsNumberAt l p 8 byte → byte < 2 ^ 8
byte_small l p byte is = let e = is.valued in omega (arith, number_below (part l p 8) 8 (let m = length-part l p 8 is.within in omega arith))
