-- Steps among the numbers of all terms as steps among the documents of one.
use Rattle.std.proofs.Common.{◌≡◌, ℕ, ◌+◌, ◌-◌, ◌*◌, ◌<◌, ◌≤◌, Bool, List, [], length, sym, ap, ◌∙◌, inl, inr, arith}
use Rattle.std.proofs.lemmas.Bool.{cases_lt, le-ltb, lt-ltb}
use Rattle.vers_sorted.specs.Sorted.{is_element, below}
use Rattle.vers_sorted.proofs.PublicLaws.{below_le, below_up, element_none}
use Rattle.sets.specs.declared.step.Step.{Step}
use Rattle.sets.specs.declared.step.Step.TheVariants.{Ended, Past, Found}
use Rattle.sets.specs.Steps.{HasNone, HasNoMore, IsStep, PassesOne, Rises}
use Rattle.inverted.specs.inside.Steps.{IsCursorOf, step_in}
use Rattle.inverted.specs.inside.Windows.{documents_of}
use Rattle.inverted.proofs.Windows.{element_is, element_past, rank_is}

-- ---- cursors

-- a step in a set is one in an equal set
step_same : (has also : ℕ → Bool) (at : ℕ) (step : Step) → ((x : ℕ) → has x ≡ also x) → IsStep has at step → IsStep also at step
step_same has also at Ended same none = λ x from. sym (same x) ∙ none x from
step_same has also at (Past n) same past = record { from = past.from; fits = past.fits; none = λ x from less. sym (same x) ∙ past.none x from less }
step_same has also at (Found n) same next = record {
  from = next.from;
  fits = next.fits;
  none = λ x from less. sym (same x) ∙ next.none x from less;
  there = sym (same n) ∙ next.there;
  most = λ is_most x from. sym (same x) ∙ next.most is_most x from;
}

passes_same : (passed also : ℕ → ℕ) (at : ℕ) (step : Step) → ((v : ℕ) → passed v ≡ also v) → PassesOne passed at step → PassesOne also at step
passes_same passed also at Ended same pass = tt
passes_same passed also at (Past n) same pass = omega (arith, same at, same n, pass)
passes_same passed also at (Found n) same pass = omega (arith, same at, same (n + 1), pass)

-- ---- the documents of a term

module _ (ns : List ℕ) (universe t at : ℕ) where
  -- no document before that of a number
  none_before : (n : ℕ) → HasNone (is_element ns) (t * universe + at) n → n ≤ t * universe + universe → HasNone (is_element (documents_of ns universe t)) at (n - t * universe)
  none_before n none within x from less =
      sym (element_is ns universe t x (omega (arith, less, within))) ∙ none (t * universe + x) (omega (arith, from)) (omega (arith, less))

  -- no document is left
  none_left : HasNone (is_element ns) (t * universe + at) (t * universe + universe) → HasNoMore (is_element (documents_of ns universe t)) at
  none_left none x from = elim (cases_lt x universe) [
    | inl few ↦ sym (element_is ns universe t x few) ∙ none (t * universe + x) (omega (arith, from)) (omega (arith, few))
    | inr past ↦ element_past ns universe t x past
  ]

  within_term : (step : Step) → t * universe + universe ≤ 18446744073709551615 → IsStep (is_element ns) (t * universe + at) step → IsStep (is_element (documents_of ns universe t)) at (step_in (t * universe) universe step)
  within_term Ended fits none = none_left (λ x from less. none x from)
  within_term (Past n) fits past = elim (cases_lt n (t * universe + universe)) [
    | inl within ↦ rw (lt-ltb n (t * universe + universe) within) (record {
      from = omega (arith, past.from);
      fits = omega (arith, past.fits);
      none = none_before n past.none (omega (arith, within));
    })
    | inr beyond ↦ rw (le-ltb n (t * universe + universe) beyond) (none_left (λ x from less. past.none x from (omega (arith, less, beyond))))
  ]
  within_term (Found n) fits next = elim (cases_lt n (t * universe + universe)) [
    | inl within ↦
        let document : t * universe + (n - t * universe) ≡ n = omega (arith, next.from) in
        let few : n - t * universe < universe = omega (arith, next.from, within) in
        let less : n - t * universe < 18446744073709551615 = omega (arith, few, fits) in
        rw (lt-ltb n (t * universe + universe) within) (record {
          from = omega (arith, next.from);
          fits = omega (arith, less);
          none = none_before n next.none (omega (arith, within));
          there = sym (element_is ns universe t (n - t * universe) few) ∙ ap (is_element ns) document ∙ next.there;
          most = λ is_most. absurd (omega (arith, is_most, less));
        })
    | inr beyond ↦ rw (le-ltb n (t * universe + universe) beyond) (none_left (λ x from less. next.none x from (omega (arith, less, beyond))))
  ]

  -- the documents below a number's are as many as the numbers between
  passed_to : (d m : ℕ) → d ≤ universe → t * universe + d ≡ m → below (documents_of ns universe t) d + below ns (t * universe) ≡ below ns m
  passed_to d m few is = rank_is ns universe t d few ∙ ap (below ns) is

  passes_term : (step : Step) → at < universe → IsStep (is_element ns) (t * universe + at) step → PassesOne (below ns) (t * universe + at) step → PassesOne (below (documents_of ns universe t)) at (step_in (t * universe) universe step)
  passes_term Ended few none pass = tt
  passes_term (Past n) few past pass = elim (cases_lt n (t * universe + universe)) [
    | inl within ↦ rw (lt-ltb n (t * universe + universe) within)
        (omega (arith, pass, rank_is ns universe t at (omega (arith, few)), passed_to (n - t * universe) n (omega (arith, within)) (omega (arith, past.from))))
    | inr beyond ↦ rw (le-ltb n (t * universe + universe) beyond) tt
  ]
  passes_term (Found n) few next pass = elim (cases_lt n (t * universe + universe)) [
    | inl within ↦ rw (lt-ltb n (t * universe + universe) within)
        (omega (arith, pass, rank_is ns universe t at (omega (arith, few)), passed_to (n - t * universe + 1) (n + 1) (omega (arith, within, next.from, few)) (omega (arith, next.from))))
    | inr beyond ↦ rw (le-ltb n (t * universe + universe) beyond) tt
  ]

-- the step of a cursor over all numbers
pub step_is : (cursor ns : List ℕ) (universe t at : ℕ) (step : Step) → t * universe + universe ≤ 18446744073709551615 → IsCursorOf cursor ns → IsStep (is_element cursor) (t * universe + at) step
    → IsStep (is_element (documents_of ns universe t)) at (step_in (t * universe) universe step)
step_is cursor ns universe t at step fits of is = within_term ns universe t at step fits (step_same (is_element cursor) (is_element ns) (t * universe + at) step of.has is)

pub step_passes : (cursor ns : List ℕ) (universe t at : ℕ) (step : Step) → at < universe → IsCursorOf cursor ns → IsStep (is_element cursor) (t * universe + at) step → PassesOne (below cursor) (t * universe + at) step
    → PassesOne (below (documents_of ns universe t)) at (step_in (t * universe) universe step)
step_passes cursor ns universe t at step few of is pass =
    passes_term ns universe t at step few (step_same (is_element cursor) (is_element ns) (t * universe + at) step of.has is) (passes_same (below cursor) (below ns) (t * universe + at) step of.passed pass)

pub steps_rise : (xs : List ℕ) → Rises (below xs) (length xs)
steps_rise xs = record { rises = below_up xs; bounded = below_le xs }

-- there is nothing to find in no list, and at the universe
pub none_in_none : (at : ℕ) → HasNoMore (is_element []) at
none_in_none at x from = element_none x

pub none_past : (ns : List ℕ) (universe t at : ℕ) → universe ≤ at → HasNoMore (is_element (documents_of ns universe t)) at
none_past ns universe t at past x from = element_past ns universe t x (omega (arith, past, from))
