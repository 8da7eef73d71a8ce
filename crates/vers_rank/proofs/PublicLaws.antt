-- The laws that proofs of other crates may cite. A crate above imports this file and no other of this folder.
use Rattle.std.proofs.Common.{◌≡◌, ℕ, ◌+◌, ◌-◌, ◌<◌, ◌≤◌, List, length, map, get_or, sym, ◌∙◌, inl, inr, arith, rules}
use Rattle.std.proofs.lemmas.Bool.{cases_lt}
use Rattle.std.proofs.lemmas.List.{length-map, get_or-map, ext_get_or}
use Rattle.vers_tally.specs.Reads.{Reads, AddsAtMost, times}
use Rattle.vers_tally.proofs.PublicLaws.{adds_then}
use Rattle.vers_rank.specs.Batches.{Changed}

-- ---- lists of which some items have changed

module _ {X : Type 0} {d : X} where
  -- one change after another
  pub changed_then : {R S T : X → X → Type 0} {from n : ℕ} {xs ys zs : List X} → Changed d R from n xs ys → Changed d S from n ys zs → ((x y z : X) → R x y → S y z → T x z) → Changed d T from n xs zs
  changed_then r s both = record {
    long = s.long ∙ r.long;
    each = λ j h. both _ _ _ (r.each j h) (s.each j h);
    before = λ j h. s.before j h ∙ r.before j h;
    after = λ j h. s.after j h ∙ r.after j h;
  }

  -- what an item has become, by its own number
  pub each_at : {R : X → X → Type 0} {from n : ℕ} {xs ys : List X} → Changed d R from n xs ys → (i : ℕ) → from ≤ i → i < from + n → R (get_or xs i d) (get_or ys i d)
  each_at {R} {from} {n} {xs} {ys} is i low high =
      let e : from + (i - from) ≡ i = omega arith in
      rw e at (is.each (i - from) (omega arith))

  -- the next items have changed as well
  pub changed_on : {R : X → X → Type 0} {m n : ℕ} {xs ys zs : List X} → Changed d R 0 m xs ys → Changed d R m n ys zs → Changed d R 0 (m + n) xs zs
  changed_on {R} {m} {n} {xs} {ys} {zs} first next =
      record {
        long = next.long ∙ first.long;
        each = λ j h. let e : 0 + j ≡ j = omega arith in rw e (elim (cases_lt j m) [
          | inl lower ↦ rw (next.before j lower) (each_at first j (omega arith) (omega arith))
          | inr later ↦ rw (← first.after j (omega arith)) (each_at next j later h)
        ]);
        before = λ j h. absurd (omega arith);
        after = λ j h. next.after j (omega arith) ∙ first.after j (omega arith);
      }

  -- all items are what a function gives
  pub changed_all : {f : X → X} {n : ℕ} {xs ys : List X} → Changed d (λ x y. y ≡ f x) 0 n xs ys → length xs ≤ n → ys ≡ map f xs
  changed_all {f} {n} {xs} {ys} is all =
      ext_get_or d ys (map f xs) (is.long ∙ sym (length-map xs f))
      (λ i h. let inside : i < length xs = omega (arith, is.long) in each_at is i (omega arith) (omega arith) ∙ sym (get_or-map f xs i d d inside))

-- ---- reads

-- a bound m times, and then n times
pub adds_times : {a b c : Reads} (m n : ℕ) (p : Reads) → AddsAtMost a b (times m p) → AddsAtMost b c (times n p) → AddsAtMost a c (times (m + n) p)
adds_times m n p s t = adds_then s t (search rules)
