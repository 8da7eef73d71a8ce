-- What a search has found so far.
use Rattle.std.proofs.Common.{◌≡◌, ℕ, ◌+◌, ◌-◌, ◌*◌, ◌<◌, ◌≤◌, Bool, true, false, List, [], ◌∷◌, ◌++◌, length, get_or, refl, sym, ap, ◌∙◌, arith, inl, inr, Some, None, Option, subst, length-append}
use Rattle.std.specs.List.Sorted.{IsNonDecreasing, IsStrictlyIncreasing}
use Rattle.std.proofs.lemmas.Map.Keys.{non_decreasing_from_sorted, sorted_from_strictly_increasing}
use Rattle.std.proofs.lemmas.Bool.{cases_lt, ne_eqb}
use Rattle.std.proofs.lemmas.Option.{none-some}
use Rattle.std.proofs.Math.ListN.{get_or-append}
use Rattle.std.proofs.Math.Bool.{or-false}
use Rattle.std.proofs.Math.Nat.{mul-le-mul_right}
use Rattle.vers_tally.specs.Reads.{AddsAtMost, IsWithin, Reads, plus, times}
use Rattle.vers_tally.proofs.PublicLaws.{adds_nothing, adds_then, adds_weaker}
use Rattle.sets.specs.Sets.{IsSetOf}
use Rattle.vers_sorted.specs.Sorted.{is_element}
use Rattle.sets.specs.Steps.{HasNone, HasNoMore, IsAfter, IsNext, IsPast, IsWalked, Rises, Searched, steps_taken}
use Rattle.vers_sorted.proofs.PublicLaws.{element_at, element_more, not_element}

-- the numbers below `at` of which the test holds were found
pub record IsFoundBelow (has : ℕ → Bool) (at : ℕ) (found : List ℕ) : Type 0 where
  pub ascending : IsStrictlyIncreasing found
  pub below : (i : ℕ) → i < length found → get_or found i 0 < at
  pub numbers : (x : ℕ) → x < at → is_element found x ≡ has x

pub found_none : (has : ℕ → Bool) → IsFoundBelow has 0 []
found_none has = record {
  ascending = λ k inside. absurd (omega (arith, inside));
  below = λ i inside. absurd (omega (arith, inside));
  numbers = λ x less. absurd (omega (arith, less));
}

above_found : (has : ℕ → Bool) (at : ℕ) (found : List ℕ) (x : ℕ) → IsFoundBelow has at found → at ≤ x → is_element found x ≡ false
above_found has at found x before from = not_element found x (λ i inside same. omega (arith, before.below i inside, same, from))

-- there are no more
pub found_all : (has : ℕ → Bool) (at : ℕ) (found : List ℕ) → IsFoundBelow has at found → HasNoMore has at → IsSetOf has found
found_all has at found before none = record {
  ascending = before.ascending;
  numbers = λ x. elim (cases_lt x at) [
    | inl less ↦ before.numbers x less
    | inr more ↦ above_found has at found x before more ∙ sym (none x more)
  ];
}

-- some numbers are passed
pub found_past : (has : ℕ → Bool) (at x : ℕ) (found : List ℕ) → IsFoundBelow has at found → at ≤ x → HasNone has at x → IsFoundBelow has x found
found_past has at x found before from none = record {
  ascending = before.ascending;
  below = λ i inside. omega (arith, before.below i inside, from);
  numbers = λ y less. elim (cases_lt y at) [
    | inl fewer ↦ before.numbers y fewer
    | inr more ↦ above_found has at found y before more ∙ sym (none y more less)
  ];
}

-- ---- one more number

last_of : (xs : List ℕ) (x : ℕ) → get_or (xs ++ x ∷ []) (length xs) 0 ≡ x
last_of [] x = refl
last_of (y ∷ ys) x = last_of ys x

before_last : (xs : List ℕ) (x i : ℕ) → i < length xs → get_or (xs ++ x ∷ []) i 0 ≡ get_or xs i 0
before_last xs x i inside = get_or-append xs (x ∷ []) 0 i inside

element_last : (xs : List ℕ) (x : ℕ) → is_element (xs ++ x ∷ []) x ≡ true
element_last xs x = element_at (xs ++ x ∷ []) x (length xs) (simp length-append (omega arith)) (last_of xs x)

element_before : (xs : List ℕ) (x y : ℕ) → (x ≡ y → ⊥) → is_element (xs ++ x ∷ []) y ≡ is_element xs y
element_before xs x y apart = element_more xs x y ∙ rw (ne_eqb x y apart) (or-false (is_element xs y))

pub found_one : (has : ℕ → Bool) (x : ℕ) (found : List ℕ) → IsFoundBelow has x found → has x ≡ true → IsFoundBelow has (x + 1) (found ++ x ∷ [])
found_one has x found before there =
    let long : length (found ++ x ∷ []) ≡ length found + 1 = simp length-append (omega arith) in
    let last = last_of found x in
    record {
      ascending = λ k inside. elim (cases_lt (k + 1) (length found)) [
        | inl less ↦ rw (before_last found x k (omega (arith, less)), before_last found x (k + 1) less) (before.ascending k less)
        | inr more ↦
            let here : length found ≡ k + 1 = omega (arith, more, inside, long) in
            let value : get_or (found ++ x ∷ []) (k + 1) 0 ≡ x = ap (λ j. get_or (found ++ x ∷ []) j 0) (sym here) ∙ last in
            omega (arith, before_last found x k (omega (arith, here)), value, before.below k (omega (arith, here)))
      ];
      below = λ i inside. elim (cases_lt i (length found)) [
        | inl less ↦ omega (arith, before_last found x i less, before.below i less)
        | inr more ↦ let here : i ≡ length found = omega (arith, more, inside, long) in rw (here, last) (omega arith)
      ];
      numbers = λ y less. elim (cases_lt y x) [
        | inl fewer ↦ element_before found x y (λ same. omega (arith, same, fewer)) ∙ before.numbers y fewer
        | inr more ↦ let same : y ≡ x = omega (arith, less, more) in rw same (element_last found x ∙ sym there)
      ];
    }

-- ---- the loop

-- what is known if a search continues from a number, or has ended
abbrev pub IsSoFar : (ℕ → Bool) → Option ℕ → List ℕ → Type 0
IsSoFar has (Some at) found = IsFoundBelow has at found
IsSoFar has None found = IsSetOf has found

-- the three answers of a step
module _ (has : ℕ → Bool) (at : ℕ) (from : Option ℕ) (found : List ℕ) (is : from ≡ Some at) (before : IsSoFar has from found) where
  found_before : IsFoundBelow has at found
  found_before = subst (λ (f : Option ℕ). IsSoFar has f found) is before

  pub so_far_past : (x : ℕ) → IsPast has at x → IsFoundBelow has x found
  so_far_past x past = let from_at : at ≤ x = omega (arith, past.from) in found_past has at x found found_before from_at past.none

  pub so_far_end : HasNoMore has at → IsSetOf has found
  so_far_end none = found_all has at found found_before none

  pub so_far_found : (x : ℕ) (next : Option ℕ) (more : List ℕ) → IsNext has at x → more ≡ found ++ x ∷ [] → IsAfter x next → IsSoFar has next more
  so_far_found x next more there grown after =
      goes_on next after (rw grown (found_one has x found (found_past has at x found found_before there.from there.none) there.there))
    where
      goes_on : (next : Option ℕ) → IsAfter x next → IsFoundBelow has (x + 1) more → IsSoFar has next more
      goes_on (Some n) same now = subst (λ m. IsFoundBelow has m more) (sym same) now
      goes_on None last now = found_all has (x + 1) more now (there.most last)

-- how many numbers of 64 bits are left
abbrev pub left_of : Option ℕ → ℕ
left_of (Some at) = 18446744073709551616 - at
left_of None = 0

-- ---- the reads

more_steps : (k n x : ℕ) → k + 1 ≤ n → k * x + x ≤ n * x
more_steps k n x more = let grown : (k + 1) * x ≤ n * x = mul-le-mul_right x more in omega (arith, grown)

within_steps : (k n : ℕ) (p : Reads) → k + 1 ≤ n → IsWithin (plus (times k p) p) (times n p)
within_steps k n p more = record {
  data_words = more_steps k n p.data_words more;
  block_entries = more_steps k n p.block_entries more;
  superblock_entries = more_steps k n p.superblock_entries more;
  low_parts = more_steps k n p.low_parts more;
  rank_calls = more_steps k n p.rank_calls more;
  items = more_steps k n p.items more;
  blocks = more_steps k n p.blocks more;
  nodes = more_steps k n p.nodes more;
  chunks = more_steps k n p.chunks more;
}

steps_add : (k n : ℕ) (p old between new : Reads) → AddsAtMost old between (times k p) → AddsAtMost between new p → k + 1 ≤ n → AddsAtMost old new (times n p)
steps_add k n p a b c before step more = adds_then before step (within_steps k n p more)

-- since a walk had taken `begun` steps, it has read at most what the steps since then do
pub record HasTaken (set : Searched) (begun : ℕ) (from : Option ℕ) (old new : Reads) : Type 0 where
  pub rises : begun ≤ steps_taken set from
  pub adds : AddsAtMost old new (times (steps_taken set from - begun) set.step_reads)

pub none_taken : (set : Searched) (from : Option ℕ) (reads : Reads) → HasTaken set (steps_taken set from) from reads reads
none_taken set from reads = record { rises = omega arith; adds = adds_weaker (adds_nothing reads) (grind arith) }

pub taken_most : (set : Searched) (from : Option ℕ) → Rises set.passed set.most_steps → steps_taken set from ≤ set.most_steps + 1
taken_most set (Some at) rises = omega (arith, rises.bounded at)
taken_most set None rises = omega arith

-- the three answers of a step
module _ (set : Searched) (begun at : ℕ) (from : Option ℕ) (old between new : Reads) (is : from ≡ Some at) (taken : HasTaken set begun from old between) (step : AddsAtMost between new set.step_reads) where
  taken_before : HasTaken set begun (Some at) old between
  taken_before = subst (λ (f : Option ℕ). HasTaken set begun f old between) is taken

  one_more : (next : Option ℕ) → set.passed at + 1 ≤ steps_taken set next → HasTaken set begun next old new
  one_more next more = record {
    rises = omega (arith, taken_before.rises, more);
    adds = steps_add (set.passed at - begun) (steps_taken set next - begun) set.step_reads old between new taken_before.adds step (omega (arith, taken_before.rises, more));
  }

  pub taken_past : (x : ℕ) → set.passed at + 1 ≤ set.passed x → HasTaken set begun (Some x) old new
  taken_past x pass = one_more (Some x) pass

  pub taken_end : Rises set.passed set.most_steps → HasTaken set begun None old new
  taken_end rises = one_more None (omega (arith, rises.bounded at))

  pub taken_found : (x : ℕ) (next : Option ℕ) → set.passed at + 1 ≤ set.passed (x + 1) → Rises set.passed set.most_steps → IsAfter x next → HasTaken set begun next old new
  taken_found x (Some n) pass rises same = one_more (Some n) (subst (λ m. set.passed at + 1 ≤ set.passed m) (sym same) pass)
  taken_found x None pass rises last = taken_end rises

-- all steps of a search
pub all_taken : (set : Searched) (begun : ℕ) (old new : Reads) → HasTaken set begun None old new → AddsAtMost old new (times (set.most_steps + 1) set.step_reads)
all_taken set begun old new taken = adds_weaker taken.adds (fewer_steps (set.most_steps + 1 - begun) (set.most_steps + 1) set.step_reads (omega arith))
  where
    fewer_steps : (k n : ℕ) (p : Reads) → k ≤ n → IsWithin (times k p) (times n p)
    fewer_steps k n p few = grind (arith, mul-le-mul_right)

-- ---- a walk

none_till : (has : ℕ → Bool) (start at x : ℕ) → HasNone has start at → HasNone has at x → HasNone has start x
none_till has start at x before then y from less = elim (cases_lt y at) [ inl fewer ↦ before y from fewer | inr more ↦ then y more less ]

-- a search that continues has passed none, and one that began past the end stays there
abbrev pub IsOn : (ℕ → Bool) → Option ℕ → Option ℕ → Type 0
IsOn has None from = from ≡ None
IsOn has (Some start) (Some at) = (start ≤ at) × HasNone has start at
IsOn has (Some start) None = HasNoMore has start

pub walk_starts : (has : ℕ → Bool) (start : Option ℕ) → IsOn has start start
walk_starts has None = refl
walk_starts has (Some at) = (omega arith, λ x from before. absurd (omega (arith, from, before)))

pub walk_finds : (has : ℕ → Bool) (start from next : Option ℕ) (at x : ℕ) → from ≡ Some at → IsOn has start from → IsNext has at x → IsAfter x next → IsWalked has start (Some x) next
walk_finds has None from next at x is on there after = absurd (none-some at (sym on ∙ is))
walk_finds has (Some start) from next at x is on there after =
    let passed : (start ≤ at) × HasNone has start at = subst (λ (f : Option ℕ). IsOn has (Some start) f) is on in (
      record {
        from = omega (arith, passed.0, there.from);
        fits = there.fits;
        none = none_till has start at x passed.1 there.none;
        there = there.there;
        most = there.most;
      },
      after,
    )

pub walk_passes : (has : ℕ → Bool) (start from : Option ℕ) (at x : ℕ) → from ≡ Some at → IsOn has start from → IsPast has at x → IsOn has start (Some x)
walk_passes has None from at x is on past = absurd (none-some at (sym on ∙ is))
walk_passes has (Some start) from at x is on past =
    let passed : (start ≤ at) × HasNone has start at = subst (λ (f : Option ℕ). IsOn has (Some start) f) is on in
    (omega (arith, passed.0, past.from), none_till has start at x passed.1 past.none)

pub walk_ends : (has : ℕ → Bool) (start from : Option ℕ) (at : ℕ) → from ≡ Some at → IsOn has start from → HasNoMore has at → IsOn has start None
walk_ends has None from at is on none = refl
walk_ends has (Some start) from at is on none =
    let passed : (start ≤ at) × HasNone has start at = subst (λ (f : Option ℕ). IsOn has (Some start) f) is on in
    λ x after. elim (cases_lt x at) [ inl less ↦ passed.1 x after less | inr more ↦ none x more ]

pub walk_ended : (has : ℕ → Bool) (start from : Option ℕ) → from ≡ None → IsOn has start from → IsWalked has start None None
walk_ended has None from is on = (refl, refl)
walk_ended has (Some start) from is on = (subst (λ (f : Option ℕ). IsOn has (Some start) f) is on, refl)

-- ---- the list of a set

pub ascending_set : {has : ℕ → Bool} {found : List ℕ} → IsSetOf has found → IsNonDecreasing found
ascending_set {found} set = non_decreasing_from_sorted found (sorted_from_strictly_increasing found set.ascending)
