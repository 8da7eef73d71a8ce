-- A search: the scan of the block that it begins in, what the tree answers, and the scan of that block.
use Rattle.vers_trees.proofs.Names.{◌≡◌, ℕ, ◌+◌, ◌-◌, ◌*◌, ◌/◌, ◌<◌, ◌≤◌, Bool, true, false, List, length, ℤ, ◌-ℤ◌, FitsSigned, to_z, of_z, Option, None, Some, Result, Ok, Err, MatchResult, arith, ⊎_elim, refl, sym, ap, ◌∙◌, w64, result_ok, ints, to_z-of_z, Node, first_rise_after, last_rise_before, edge, IsBetween, up_to, IsRise, HasNoRise, start_of, Sought, sought, IsAfter, Passed, HasNone, IsAhead, BeginsAt, IsPassed, Reads, AddsAtMost, only_nodes, digits, past_reads, block_reads, levels, adds_then, adds_weaker}
pub use Rattle.vers_trees.proofs.searches.Searches.{after_is, none_after, before_is, none_before, before_past}
pub use Rattle.vers_trees.proofs.searches.Scans.{rise_fits, split, rise_is}
use Rattle.vers_trees.proofs.layout.Blocks.{left_fits, too_far}

-- a number as the machine has it
abbrev stored : ℤ → ℤ
stored z = to_z w64 (of_z w64 z)

-- a tested difference is the difference
abbrev Difference : ℤ → ℤ → ℤ → Type 0
Difference r rise left = FitsSigned w64 (stored r -ℤ stored rise) × (left ≡ stored r -ℤ stored rise)

left_is : (r rise left : ℤ) → FitsSigned w64 r → FitsSigned w64 rise → Difference r rise left → stored left ≡ r -ℤ rise
left_is r rise left f g d = rw d.1 (to_z-of_z w64 _ d.0 ∙ ap (λ (z : ℤ). z -ℤ stored rise) (to_z-of_z w64 r f) ∙ ap (λ (z : ℤ). r -ℤ z) (to_z-of_z w64 rise g))

-- ---- what a search answers
pub record IsAnswer (back : Bool) (s : Sought) (o : Option ℕ) : Type 0 where
  pub none : HasNone back s → None ≡ o
  pub some : (position : ℕ) → IsRise back s.bits s.from (edge back (length s.bits) 0) s.rise position → Some position ≡ o

pub answer_after : (l : List Bool) (size i : ℕ) (r : ℤ) → IsAnswer false (sought l size (i + 1) r) (first_rise_after l i r)
answer_after l size i r = record {
  none = λ n. sym (none_after l i r (λ k a b. n k (omega arith) b));
  some = λ position q. sym (after_is l i r position (record { after = omega arith; inside = q.between.1; sum = q.sum; first = λ k x y. q.first k (omega arith, y) }));
}

pub answer_before : (l : List Bool) (size i : ℕ) (r : ℤ) → i < length l → IsAnswer true (sought l size i r) (last_rise_before l i r)
answer_before l size i r h = record {
  none = λ n. sym (none_before l i r n);
  some = λ position q. sym (before_is l i r position (record { before = q.between.1; inside = h; sum = q.sum; last = λ k x y. q.first k (omega arith, y) }));
}

pub answer_here : (back : Bool) (s : Sought) (o : Option ℕ) → IsAnswer back s o → (end position : ℕ) → IsRise back s.bits s.from end s.rise position → IsBetween back s.from (edge back (length s.bits) 0) position → Some position ≡ o
answer_here back s o a end position q b = a.some position (record { between = b; sum = q.sum; first = q.first })

-- ---- the position that a search reaches past its block
comes_past : (back : Bool) (s : Sought) (block : ℕ) → 0 < s.size → 0 < s.from → s.from ≤ length s.bits → block ≡ (s.from - 1) / s.size → IsAfter back s.from (start_of s.bits s.size (edge back (block + 1) block))
comes_past back s block so a b e = grind arith

-- the block that a search backwards continues in ends before the position that it begins at
pub ends_before : (s : Sought) (j : ℕ) (rest : ℤ) → IsAhead true s j (j + 1) rest → j * s.size + s.size < s.from
ends_before s j rest a = omega arith

-- ---- in a list with its tree, where the block that the search begins in has no position with its sum
module _ (back : Bool) (s : Sought) (first : ℕ) (nodes : List Node) (block : ℕ) (rise : ℤ) (p : IsPassed back s first nodes block rise) (o : Option ℕ) (a : IsAnswer back s o) (f : FitsSigned w64 s.rise) where
  fits : FitsSigned w64 rise
  fits = rise_fits s.bits s.from (start_of s.bits s.size (edge back (block + 1) block)) rise p.indexed.short p.inside (omega arith) p.passed.risen

  passed : (left : ℤ) → left ≡ s.rise -ℤ rise → Passed back s (start_of s.bits s.size (edge back (block + 1) block)) left
  passed left e = record { inside = p.inside; after = comes_past back s block p.indexed.some p.some p.inside p.begins; remains = omega (arith, ints); none = p.passed.none }

  pub none_far : (FitsSigned w64 (stored s.rise -ℤ stored rise) → ⊥) → None ≡ o
  none_far long =
      let q = passed (s.rise -ℤ rise) refl in
      a.none (too_far back s _ (start_of s.bits s.size (edge back (block + 1) block)) _ (s.rise -ℤ rise) p.indexed.short q (omega arith) q.remains (λ g. long (rw (to_z-of_z w64 s.rise f, to_z-of_z w64 rise fits) g)))

  -- the tree is asked for what is left
  module _ (left : ℤ) (d : Difference s.rise rise left) where
    pub begins : BeginsAt back s first nodes block (stored left)
    begins = record { tree = (p.indexed.over (omega arith)).tree; some = (rw p.begins (omega arith)); passed = passed (stored left) (left_is s.rise rise left f fits d) }

    pub none_next : ((q : Sought) → BeginsAt back q first nodes block (stored left) → HasNone back q) → None ≡ o
    none_next none = a.none (none s begins)

    -- the block that it answers has such a position, and its scan ends the search
    module _ (j : ℕ) (rest : ℤ) (next : (q : Sought) → BeginsAt back q first nodes block (stored left) → IsAhead back q j (j + 1) rest) where
      ahead : IsAhead back s j (j + 1) rest
      ahead = next s begins

      pub next_inside : j * s.size < length s.bits
      next_inside = omega (arith, ahead.position.2, ahead.position.1)

      whole : stored rest ≡ rest
      whole = let k = ahead.position in to_z-of_z w64 rest (left_fits back s (start_of s.bits s.size (edge back j (j + 1))) rest k.0 p.indexed.short (omega arith) ahead.passed.remains (omega arith) k.3)

      pub next_answer : (x y : ℕ) (r : Result ℕ ℤ) → x ≡ start_of s.bits s.size (edge back j (j + 1)) → y ≡ start_of s.bits s.size (edge back (j + 1) j) → MatchResult r (λ position. IsRise back s.bits x y (stored rest) position) (λ past. HasNoRise back s.bits x y (stored rest) past) → result_ok r ≡ o
      next_answer x y (Ok position) e g q =
          let t = rw (e, g) at q in let re = ahead.passed.remains in let wh = whole in
          a.some position (record {
            between = grind (arith, p.inside, ahead.passed.after, t.between);
            sum = omega (arith, ints);
            first = λ k b z. ⊎_elim (λ w. ahead.passed.none k w z) (λ w. t.first k w (omega (arith, ints))) (split back s.from (start_of s.bits s.size (edge back j (j + 1))) (up_to back position) k b);
          })
      next_answer x y (Err past) e g q =
          let re = ahead.passed.remains in let wh = whole in let k = ahead.position in
          absurd ((rw (e, g) at q).none k.0 (grind (arith, k.1, k.2)) (omega (arith, ints)))

-- what it reads then: the tree's nodes, and the bits of a block
module _ (back : Bool) (s : Sought) (first : ℕ) (nodes : List Node) (block : ℕ) (rise : ℤ) (p : IsPassed back s first nodes block rise) (a b : Reads) (h : AddsAtMost a b (only_nodes (4 * digits first))) where
  few : digits first ≤ levels s.size (length s.bits)
  few = (p.indexed.over (omega arith)).few

  pub climbed : AddsAtMost a b (past_reads s.size (length s.bits))
  climbed = adds_weaker h (grind arith)

  pub climbed_and_scanned : (c : Reads) (n : ℕ) → n ≤ s.size → AddsAtMost b c (block_reads n) → AddsAtMost a c (past_reads s.size (length s.bits))
  climbed_and_scanned c n e q = adds_then h q (grind arith)
