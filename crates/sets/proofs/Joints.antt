-- Steps in combined sources.
use Rattle.std.proofs.Common.{◌≡◌, ℕ, zero, suc, ◌+◌, ◌<◌, ◌≤◌, Bool, true, false, List, [], ◌∷◌, length, get_or, take, map, refl, sym, ap, ◌∙◌, inl, inr, arith, add_assoc, zero-add, add-zero}
use Rattle.std.specs.Prelude.{◌&&◌, ◌||◌, min, nat_lt, if◌then◌else◌}
use Rattle.std.specs.List.{list_all, list_any, sum_by}
use Rattle.std.proofs.Math.ListN.{get_or-map, set}
use Rattle.std.proofs.Math.Seq.{map-set_same}
use Rattle.std.proofs.lemmas.List.{length-map}
use Rattle.std.proofs.lemmas.Bool.{cases_lt, ltb-false, ltb-true}
use Rattle.std.proofs.lemmas.List.Folds.{list_all_at, list_all_more, list_any_more}
use Rattle.std.proofs.Math.Bool.{and-false}
use Rattle.std.proofs.lemmas.List.Sums.{sum_by_more}
use Rattle.vers_tally.specs.Reads.{AddsAtMost, IsWithin, Reads, no_reads, plus}
use Rattle.vers_tally.proofs.PublicLaws.{adds_then, adds_weaker, within_itself}
use Rattle.sets.specs.declared.step.Step.{Step}
use Rattle.sets.specs.declared.step.Step.TheVariants.{Ended, Past, Found}
use Rattle.sets.specs.Sources.{step_reads_of}
use Rattle.sets.specs.Steps.{HasNone, HasNoMore, IsNext, IsPast, IsStep, PassesOne, Rises, Searched}
use Rattle.sets.specs.inside.Joints.{IsEach, earlier_of}

-- ---- one source of several, by what f states about each

module _ {S : Type 0} (f : S → Searched) (items old : List S) (i : ℕ) (item : S) (same : map f items ≡ map f old) (is : item ≡ get_or items i item) where
  pub item_same : f item ≡ get_or (map f old) i (f item)
  item_same = ap f is ∙ sym (get_or-map f items i item) ∙ ap (λ sets. get_or sets i (f item)) same

  pub inside_same : i < length old → i < length (map f old)
  inside_same inside = rw (length-map old f) inside

  -- the same with another source before them
  pub next_same : (first : Searched) → f item ≡ get_or (first ∷ map f old) (i + 1) (f item)
  next_same first = let next : i + 1 ≡ suc i = omega arith in rw next item_same

  pub inside_next : (first : Searched) → i < length old → i + 1 < length (first ∷ map f old)
  inside_next first inside = omega (arith, inside_same inside)

  -- its step keeps what f states about it
  pub sets_same : (next : S) → f next ≡ f item → map f (set items i next) ≡ map f old
  sets_same next kept = map-set_same f items i next item (kept ∙ ap f is) ∙ same

-- ---- reads of one step in each of several sets

plus_assoc : (p q r : Reads) → plus (plus p q) r ≡ plus p (plus q r)
plus_assoc p q r = simp add_assoc

plus_none : (p : Reads) → plus p no_reads ≡ plus no_reads p
plus_none p = simp (add-zero, zero-add)

less_first : (p q : Reads) → IsWithin no_reads (plus p q)
less_first p q = record {
  data_words = omega arith;
  block_entries = omega arith;
  superblock_entries = omega arith;
  low_parts = omega arith;
  rank_calls = omega arith;
  items = omega arith;
  blocks = omega arith;
  nodes = omega arith;
  chunks = omega arith;
}

plus_up : (p q r : Reads) → IsWithin q r → IsWithin (plus p q) (plus p r)
plus_up p q r within = record {
  data_words = omega (arith, within.data_words);
  block_entries = omega (arith, within.block_entries);
  superblock_entries = omega (arith, within.superblock_entries);
  low_parts = omega (arith, within.low_parts);
  rank_calls = omega (arith, within.rank_calls);
  items = omega (arith, within.items);
  blocks = omega (arith, within.blocks);
  nodes = omega (arith, within.nodes);
  chunks = omega (arith, within.chunks);
}

-- one more set is searched
reads_more : (sets : List Searched) (i : ℕ) (set : Searched) → i < length sets → step_reads_of (take (i + 1) sets) ≡ plus (step_reads_of (take i sets)) (get_or sets i set).step_reads
reads_more [] i set inside = absurd (omega (arith, inside))
reads_more (x ∷ xs) zero set inside = plus_none x.step_reads
reads_more (x ∷ xs) (suc i) set inside =
    let next : suc i + 1 ≡ suc (i + 1) = omega arith in
    rw (next, reads_more xs i set (omega (arith, inside))) (sym (plus_assoc x.step_reads (step_reads_of (take i xs)) (get_or xs i set).step_reads))

-- some of the sets take no more than all
reads_fewer : (sets : List Searched) (n : ℕ) → IsWithin (step_reads_of (take n sets)) (step_reads_of sets)
reads_fewer [] zero = within_itself no_reads
reads_fewer [] (suc n) = within_itself no_reads
reads_fewer (x ∷ xs) zero = less_first x.step_reads (step_reads_of xs)
reads_fewer (x ∷ xs) (suc n) = plus_up x.step_reads (step_reads_of (take n xs)) (step_reads_of xs) (reads_fewer xs n)

pub searched_more : (sets : List Searched) (i : ℕ) (set : Searched) (old between new : Reads) → i < length sets → set ≡ get_or sets i set
    → AddsAtMost old between (step_reads_of (take i sets)) → AddsAtMost between new set.step_reads → AddsAtMost old new (step_reads_of (take (i + 1) sets))
searched_more sets i set a b c inside same before step =
    rw (reads_more sets i set inside, ← same) (adds_then before step (within_itself (plus (step_reads_of (take i sets)) set.step_reads)))

pub searched_last : (sets : List Searched) (i : ℕ) (set : Searched) (old between new : Reads) → i < length sets → set ≡ get_or sets i set
    → AddsAtMost old between (step_reads_of (take i sets)) → AddsAtMost between new set.step_reads → AddsAtMost old new (step_reads_of sets)
searched_last sets i set a b c inside same before step = adds_weaker (searched_more sets i set a b c inside same before step) (reads_fewer sets (i + 1))

-- ---- a number in each of several sets

-- the next number from x on in one more of the sets is x
pub here_in_each : (sets : List Searched) (i : ℕ) (set : Searched) (x y : ℕ) → i < length sets → set ≡ get_or sets i set → IsNext set.has x y → y ≤ x
    → list_all (λ one. one.has x) (take i sets) ≡ true → list_all (λ one. one.has x) (take (i + 1) sets) ≡ true
here_in_each sets i set x y inside same next upto before =
    let here : x ≡ y = omega (arith, next.from, upto) in
    let last : (get_or sets i set).has x ≡ true = rw (← same) (rw here next.there) in
    list_all_more (λ one. one.has x) sets i set inside ∙ rw (before, last) refl

lacked : (sets : List Searched) (i : ℕ) (set : Searched) (y : ℕ) → i < length sets → set ≡ get_or sets i set → set.has y ≡ false → list_all (λ one. one.has y) sets ≡ false
lacked sets i set y inside same fails = list_all_at (λ one. one.has y) sets i set inside (rw (← same) fails)

-- numbers that one of the sets lacks
pub past_in_each : (sets : List Searched) (i : ℕ) (set : Searched) (x y : ℕ) → i < length sets → set ≡ get_or sets i set → IsPast set.has x y → IsPast (λ z. list_all (λ one. one.has z) sets) x y
past_in_each sets i set x y inside same past = record {
  from = past.from;
  fits = past.fits;
  none = λ z from less. lacked sets i set z inside same (past.none z from less);
}

pub later_in_each : (sets : List Searched) (i : ℕ) (set : Searched) (x y : ℕ) → i < length sets → set ≡ get_or sets i set → IsNext set.has x y → x < y → IsPast (λ z. list_all (λ one. one.has z) sets) x y
later_in_each sets i set x y inside same next less = past_in_each sets i set x y inside same (record { from = less; fits = next.fits; none = next.none })

pub ended_in_each : (sets : List Searched) (i : ℕ) (set : Searched) (x : ℕ) → i < length sets → set ≡ get_or sets i set → HasNoMore set.has x → HasNoMore (λ z. list_all (λ one. one.has z) sets) x
ended_in_each sets i set x inside same none z from = lacked sets i set z inside same (none z from)

-- a step in the first set and one in each of the others
pub each_step : (has each : ℕ → Bool) (at x : ℕ) (step : Step) → IsNext has at x → IsEach each x step → IsStep (λ y. has y && each y) at step
each_step has each at x Ended first none = λ y from. elim (cases_lt y x) [
  | inl less ↦ rw (first.none y from less) refl
  | inr more ↦ rw (none y more) (and-false (has y))
]
each_step has each at x (Past z) first past = record {
  from = omega (arith, first.from, past.from);
  fits = past.fits;
  none = λ y from less. elim (cases_lt y x) [
    | inl before ↦ rw (first.none y from before) refl
    | inr more ↦ rw (past.none y more less) (and-false (has y))
  ];
}
each_step has each at x (Found z) first found = rw found.0 (record {
  from = first.from;
  fits = first.fits;
  none = λ y from less. rw (first.none y from less) refl;
  there = rw (first.there, (rw found.0 at found.1)) refl;
  most = λ is_most y after. rw (first.most is_most y after) refl;
})

-- ---- the earlier of two steps

neither : (a b : Bool) → a ≡ false → b ≡ false → a || b ≡ false
neither a b e f = rw (e, f) refl

left_true : (a b : Bool) → a ≡ true → a || b ≡ true
left_true a b e = rw e refl

right_true : (a b : Bool) → b ≡ true → a || b ≡ true
right_true true b e = refl
right_true false b e = e

none_less : (p q : ℕ → Bool) (at x y z : ℕ) → HasNone p at x → HasNone q at y → z ≤ x → z ≤ y → HasNone (λ v. p v || q v) at z
none_less p q at x y z a b le le' v from less = neither (p v) (q v) (a v from (omega (arith, less, le))) (b v from (omega (arith, less, le')))

-- a step in one set that finds the first number of both, or of the other
found_first : (p q : ℕ → Bool) (at x y : ℕ) → IsNext p at x → HasNone q at y → x ≤ y → (x ≡ 18446744073709551615 → HasNoMore q (x + 1)) → IsNext (λ v. p v || q v) at x
found_first p q at x y a none upto more = record {
  from = a.from;
  fits = a.fits;
  none = none_less p q at x y x a.none none (omega arith) upto;
  there = left_true (p x) (q x) a.there;
  most = λ is_most v after. neither (p v) (q v) (a.most is_most v after) (more is_most v after);
}

found_other : (p q : ℕ → Bool) (at x y : ℕ) → HasNone p at x → IsNext q at y → y ≤ x → (y ≡ 18446744073709551615 → HasNoMore p (y + 1)) → IsNext (λ v. p v || q v) at y
found_other p q at x y none b upto more = record {
  from = b.from;
  fits = b.fits;
  none = none_less p q at x y y none b.none upto (omega arith);
  there = right_true (p y) (q y) b.there;
  most = λ is_most v after. neither (p v) (q v) (more is_most v after) (b.most is_most v after);
}

-- the greatest number of 64 bits is not below another
not_most : {A : Type 0} (x y : ℕ) → x < y → y ≤ 18446744073709551615 → x ≡ 18446744073709551615 → A
not_most x y less fits is = absurd (omega (arith, less, fits, is))

pub earlier_step : (p q : ℕ → Bool) (at : ℕ) (s t : Step) → IsStep p at s → IsStep q at t → IsStep (λ v. p v || q v) at (earlier_of s t)
earlier_step p q at Ended Ended a b = λ v from. neither (p v) (q v) (a v from) (b v from)
earlier_step p q at Ended (Past y) a b = record {
  from = b.from;
  fits = b.fits;
  none = λ v from less. neither (p v) (q v) (a v from) (b.none v from less);
}
earlier_step p q at Ended (Found y) a b = found_other p q at y y (λ v from less. a v from) b (omega arith) (λ is_most v after. a v (omega (arith, b.from, after)))
earlier_step p q at (Past x) Ended a b = record {
  from = a.from;
  fits = a.fits;
  none = λ v from less. neither (p v) (q v) (a.none v from less) (b v from);
}
earlier_step p q at (Past x) (Past y) a b = record {
  from = omega (arith, a.from, b.from);
  fits = omega (arith, a.fits, b.fits);
  none = none_less p q at x y (min x y) a.none b.none (omega arith) (omega arith);
}
earlier_step p q at (Past x) (Found y) a b = by_order (nat_lt y x) refl
  where
    by_order : (less : Bool) → nat_lt y x ≡ less → IsStep (λ v. p v || q v) at (if less then Found y else Past x)
    by_order true is =
        let less : y < x = ltb-true y x is in
        found_other p q at x y a.none b (omega (arith, less)) (λ is_most. not_most y x less a.fits is_most)
    by_order false is = record {
      from = a.from;
      fits = a.fits;
      none = none_less p q at x y x a.none b.none (omega arith) (ltb-false y x is);
    }
earlier_step p q at (Found x) Ended a b = found_first p q at x x a (λ v from less. b v from) (omega arith) (λ is_most v after. b v (omega (arith, a.from, after)))
earlier_step p q at (Found x) (Past y) a b = by_order (nat_lt x y) refl
  where
    by_order : (less : Bool) → nat_lt x y ≡ less → IsStep (λ v. p v || q v) at (if less then Found x else Past y)
    by_order true is =
        let less : x < y = ltb-true x y is in
        found_first p q at x y a b.none (omega (arith, less)) (λ is_most. not_most x y less b.fits is_most)
    by_order false is = record {
      from = b.from;
      fits = b.fits;
      none = none_less p q at x y y a.none b.none (ltb-false x y is) (omega arith);
    }
earlier_step p q at (Found x) (Found y) a b = elim (cases_lt x y) [
  | inl less ↦
      let least : min x y ≡ x = omega (arith, less) in
      rw least (found_first p q at x y a b.none (omega (arith, less)) (λ is_most. not_most x y less b.fits is_most))
  | inr upto ↦ elim (cases_lt y x) [
    | inl less ↦
        let least : min x y ≡ y = omega (arith, less) in
        rw least (found_other p q at x y a.none b upto (λ is_most. not_most y x less a.fits is_most))
    | inr equal ↦
        let same : y ≡ x = omega (arith, upto, equal) in
        let least : min x y ≡ x = omega (arith, same) in
        rw least (found_first p q at x y a b.none (omega (arith, same)) (rw (← same) b.most))
  ]
]

-- ---- steps used up

pub rise_together : (p q : ℕ → ℕ) (m n : ℕ) → Rises p m → Rises q n → Rises (λ v. p v + q v) (m + n)
rise_together p q m n a b = record {
  rises = λ v w up. omega (arith, a.rises v w up, b.rises v w up);
  bounded = λ v. omega (arith, a.bounded v, b.bounded v);
}

one_more : (p q : ℕ → ℕ) (n at z : ℕ) → Rises q n → at ≤ z → p at + 1 ≤ p z → p at + q at + 1 ≤ p z + q z
one_more p q n at z b from pass = omega (arith, pass, b.rises at z from)

other_more : (p q : ℕ → ℕ) (m at z : ℕ) → Rises p m → at ≤ z → q at + 1 ≤ q z → p at + q at + 1 ≤ p z + q z
other_more p q m at z a from pass = omega (arith, pass, a.rises at z from)

module _ (has other : ℕ → Bool) (p q : ℕ → ℕ) (m n at : ℕ) (a : Rises p m) (b : Rises q n) where
  pub earlier_passes : (s t : Step) → IsStep has at s → IsStep other at t → PassesOne p at s → PassesOne q at t → PassesOne (λ v. p v + q v) at (earlier_of s t)
  earlier_passes Ended Ended i j c d = tt
  earlier_passes Ended (Past y) i j c d = other_more p q m at y a (omega (arith, j.from)) d
  earlier_passes Ended (Found y) i j c d = other_more p q m at (y + 1) a (omega (arith, j.from)) d
  earlier_passes (Past x) Ended i j c d = one_more p q n at x b (omega (arith, i.from)) c
  earlier_passes (Past x) (Past y) i j c d = elim (cases_lt x y) [
    | inl less ↦ let least : min x y ≡ x = omega (arith, less) in rw least (one_more p q n at x b (omega (arith, i.from)) c)
    | inr upto ↦ let least : min x y ≡ y = omega (arith, upto) in rw least (other_more p q m at y a (omega (arith, j.from)) d)
  ]
  earlier_passes (Past x) (Found y) i j c d = by_order (nat_lt y x)
    where
      by_order : (less : Bool) → PassesOne (λ v. p v + q v) at (if less then Found y else Past x)
      by_order true = other_more p q m at (y + 1) a (omega (arith, j.from)) d
      by_order false = one_more p q n at x b (omega (arith, i.from)) c
  earlier_passes (Found x) Ended i j c d = one_more p q n at (x + 1) b (omega (arith, i.from)) c
  earlier_passes (Found x) (Past y) i j c d = by_order (nat_lt x y)
    where
      by_order : (less : Bool) → PassesOne (λ v. p v + q v) at (if less then Found x else Past y)
      by_order true = one_more p q n at (x + 1) b (omega (arith, i.from)) c
      by_order false = other_more p q m at y a (omega (arith, j.from)) d
  earlier_passes (Found x) (Found y) i j c d = elim (cases_lt x y) [
    | inl less ↦ let least : min x y ≡ x = omega (arith, less) in rw least (one_more p q n at (x + 1) b (omega (arith, i.from)) c)
    | inr upto ↦ let least : min x y ≡ y = omega (arith, upto) in rw least (other_more p q m at (y + 1) a (omega (arith, j.from)) d)
  ]

-- ---- one more of several sets

-- the same step for tests that agree
step_same : (p q : ℕ → Bool) (at : ℕ) (s : Step) → ((x : ℕ) → q x ≡ p x) → IsStep p at s → IsStep q at s
step_same p q at Ended same step = λ x from. same x ∙ step x from
step_same p q at (Past x) same step = record { from = step.from; fits = step.fits; none = λ y from less. same y ∙ step.none y from less }
step_same p q at (Found x) same step = record {
  from = step.from;
  fits = step.fits;
  none = λ y from less. same y ∙ step.none y from less;
  there = same x ∙ step.there;
  most = λ is_most y after. same y ∙ step.most is_most y after;
}

passes_same : (p q : ℕ → ℕ) (at : ℕ) (s : Step) → ((x : ℕ) → q x ≡ p x) → PassesOne p at s → PassesOne q at s
passes_same p q at Ended same pass = tt
passes_same p q at (Past x) same pass = rw (same at, same x) pass
passes_same p q at (Found x) same pass = rw (same at, same (x + 1)) pass

-- what a search in some of several sets knows
pub record IsStepOf (sets : List Searched) (at : ℕ) (step : Step) : Type 0 where
  pub value : IsStep (λ x. list_any (λ one. one.has x) sets) at step
  pub passes : PassesOne (λ v. sum_by (λ one. one.passed v) sets) at step
  pub rises : Rises (λ v. sum_by (λ one. one.passed v) sets) (sum_by (λ one. one.most_steps) sets)

pub step_of_none : (at : ℕ) → IsStepOf [] at Ended
step_of_none at = record {
  value = λ x from. refl;
  passes = tt;
  rises = record { rises = λ v w up. omega arith; bounded = λ v. omega arith };
}

pub step_of_more : (sets : List Searched) (i at : ℕ) (set : Searched) (s t : Step) → i < length sets → set ≡ get_or sets i set → IsStepOf (take i sets) at s
    → IsStep set.has at t → PassesOne set.passed at t → Rises set.passed set.most_steps → IsStepOf (take (i + 1) sets) at (earlier_of s t)
step_of_more sets i at set s t inside same before value passes rises =
    let passed : ℕ → ℕ = λ v. sum_by (λ one. one.passed v) (take i sets) in
    let has : ℕ → Bool = λ x. list_any (λ one. one.has x) (take i sets) in
    let most : ℕ = sum_by (λ one. one.most_steps) (take i sets) in
    let same_passed : (v : ℕ) → sum_by (λ one. one.passed v) (take (i + 1) sets) ≡ passed v + set.passed v = λ v. sum_by_more (λ one. one.passed v) sets i set inside ∙ rw (← same) refl in
    let same_most : sum_by (λ one. one.most_steps) (take (i + 1) sets) ≡ most + set.most_steps = sum_by_more (λ one. one.most_steps) sets i set inside ∙ rw (← same) refl in
    let same_has : (x : ℕ) → list_any (λ one. one.has x) (take (i + 1) sets) ≡ has x || set.has x = λ x. list_any_more (λ one. one.has x) sets i set inside ∙ rw (← same) refl in
    let together = rise_together passed set.passed most set.most_steps before.rises rises in
    record {
      value = step_same (λ x. has x || set.has x) (λ x. list_any (λ one. one.has x) (take (i + 1) sets)) at (earlier_of s t) same_has (earlier_step has set.has at s t before.value value);
      passes = passes_same (λ v. passed v + set.passed v) (λ v. sum_by (λ one. one.passed v) (take (i + 1) sets)) at (earlier_of s t) same_passed
          (earlier_passes has set.has passed set.passed most set.most_steps at before.rises rises s t before.value value before.passes passes);
      rises = record {
        rises = λ v w up. rw (same_passed v, same_passed w) (together.rises v w up);
        bounded = λ v. rw (same_passed v, same_most) (together.bounded v);
      };
    }

pub step_of_first : (set : Searched) (sets : List Searched) (at : ℕ) (step : Step) → IsStep set.has at step → PassesOne set.passed at step → Rises set.passed set.most_steps → IsStepOf (take 1 (set ∷ sets)) at step
step_of_first set sets at step value passes rises = step_of_more (set ∷ sets) 0 at set Ended step (omega arith) refl (step_of_none at) value passes rises

pub adds_first : (set : Searched) (sets : List Searched) (old new : Reads) → AddsAtMost old new set.step_reads → AddsAtMost old new (step_reads_of (take 1 (set ∷ sets)))
adds_first set sets old new adds = adds_weaker adds (within_none set.step_reads)
  where
    within_none : (p : Reads) → IsWithin p (plus p no_reads)
    within_none p = record {
      data_words = omega arith;
      block_entries = omega arith;
      superblock_entries = omega arith;
      low_parts = omega arith;
      rank_calls = omega arith;
      items = omega arith;
      blocks = omega arith;
      nodes = omega arith;
      chunks = omega arith;
    }
