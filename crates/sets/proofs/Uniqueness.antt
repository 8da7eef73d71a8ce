-- A set is one list.
use Rattle.std.proofs.Common.{◌≡◌, ℕ, suc, ◌+◌, ◌<◌, ◌≤◌, Bool, true, false, List, [], ◌∷◌, length, refl, sym, ap, ◌∙◌, inl, inr, arith}
use Rattle.std.specs.Prelude.{◌&&◌, not, filter}
use Rattle.std.specs.List.Sorted.{IsStrictlyIncreasing}
use Rattle.std.proofs.lemmas.Bool.{cases_lt}
use Rattle.std.proofs.Math.Bool.{and-false}
use Rattle.std.proofs.lemmas.List.Kept.{AllPairs-from_increasing, IsStrictlyIncreasing-filter}
use Rattle.std.proofs.lemmas.List.FromFn.{get_or-range_with_len, length-range_with_len}
use Rattle.std.specs.List.{AllPairs, range_with_len}
use Rattle.sets.specs.Sets.{IsSetOf, in_both, in_difference}
use Rattle.vers_sorted.specs.Sorted.{is_element}
use Rattle.sets.specs.Laws.{SetIsOneList, IntersectionIsFilter, DifferenceIsFilter, SetBelowIsFilter}
use Rattle.vers_sorted.proofs.PublicLaws.{element_at, element_head, element_none, element_tail, not_element}

-- each number is below all later ones
abbrev Rising : List ℕ → Type 0
Rising xs = AllPairs (λ x y. x < y) xs

rising_tail : (x : ℕ) (xs : List ℕ) → Rising (x ∷ xs) → Rising xs
rising_tail x xs up i j d before inside = up (suc i) (suc j) d (omega arith) (omega arith)

-- what is not above the first of a rising list isn't among the others
not_later : (x : ℕ) (xs : List ℕ) (z : ℕ) → Rising (x ∷ xs) → z ≤ x → is_element xs z ≡ false
not_later x xs z up upto = not_element xs z (λ j inside same. omega (arith, same, upto, up 0 (suc j) 0 (omega arith) (omega (arith, inside))))

-- what is below the first isn't an element
not_before : (x : ℕ) (xs : List ℕ) (z : ℕ) → Rising (x ∷ xs) → z < x → is_element (x ∷ xs) z ≡ false
not_before x xs z up less = element_tail x xs z (λ same. omega (arith, same, less)) ∙ not_later x xs z up (omega (arith, less))

true-false : {A : Type 0} → true ≡ false → A
true-false e = cc

one_list : (xs ys : List ℕ) → Rising xs → Rising ys → ((z : ℕ) → is_element xs z ≡ is_element ys z) → xs ≡ ys
one_list [] [] up upper same = refl
one_list [] (y ∷ ys) up upper same = true-false (sym (element_head y ys y refl) ∙ sym (same y) ∙ element_none y)
one_list (x ∷ xs) [] up upper same = true-false (sym (element_head x xs x refl) ∙ same x ∙ element_none x)
one_list (x ∷ xs) (y ∷ ys) up upper same =
    elim (cases_lt x y) [
      | inl less ↦ true-false (sym (element_head x xs x refl) ∙ same x ∙ not_before y ys x upper less)
      | inr more ↦ elim (cases_lt y x) [
        | inl less ↦ true-false (sym (element_head y ys y refl) ∙ sym (same y) ∙ not_before x xs y up less)
        | inr upto ↦
            let equal : x ≡ y = omega (arith, more, upto) in
            let tails : xs ≡ ys = one_list xs ys (rising_tail x xs up) (rising_tail y ys upper) (λ z. tail_same x y xs ys up upper equal same z) in
            rw (equal, tails) refl
      ]
    ]
  where
    tail_same : (x y : ℕ) (xs ys : List ℕ) → Rising (x ∷ xs) → Rising (y ∷ ys) → x ≡ y → ((z : ℕ) → is_element (x ∷ xs) z ≡ is_element (y ∷ ys) z) → (z : ℕ) → is_element xs z ≡ is_element ys z
    tail_same x y xs ys up upper equal same z = elim (cases_lt x z) [
      | inl above ↦ sym (element_tail x xs z (λ e. omega (arith, e, above))) ∙ same z ∙ element_tail y ys z (λ e. omega (arith, e, above, equal))
      | inr upto ↦ not_later x xs z up upto ∙ sym (not_later y ys z upper (omega (arith, upto, equal)))
    ]

pub set_is_one_list : SetIsOneList
set_is_one_list has xs ys a b = one_list xs ys (AllPairs-from_increasing xs a.ascending) (AllPairs-from_increasing ys b.ascending) (λ z. a.numbers z ∙ sym (b.numbers z))

-- ---- the elements that pass a test

element_filter : (p : ℕ → Bool) (xs : List ℕ) (z : ℕ) → is_element (filter p xs) z ≡ is_element xs z && p z
element_filter p [] z = element_none z ∙ rw (element_none z) refl
element_filter p (x ∷ xs) z = elim (cases_lt x z) [
  | inl less ↦ apart x xs (λ e. omega (arith, e, less)) (element_filter p xs z)
  | inr from ↦ elim (cases_lt z x) [
    | inl less ↦ apart x xs (λ e. omega (arith, e, less)) (element_filter p xs z)
    | inr upto ↦ equal x xs (omega (arith, from, upto)) (p x) refl (element_filter p xs z)
  ]
]
  where
    apart : (x : ℕ) (xs : List ℕ) → (x ≡ z → ⊥) → is_element (filter p xs) z ≡ is_element xs z && p z → is_element (filter p (x ∷ xs)) z ≡ is_element (x ∷ xs) z && p z
    apart x xs ne rest = rw (element_tail x xs z ne) (either (p x) refl)
      where
        either : (b : Bool) → p x ≡ b → is_element (filter p (x ∷ xs)) z ≡ is_element xs z && p z
        either true e = rw e (element_tail x (filter p xs) z ne ∙ rest)
        either false e = rw e rest

    equal : (x : ℕ) (xs : List ℕ) → x ≡ z → (b : Bool) → p x ≡ b → is_element (filter p xs) z ≡ is_element xs z && p z → is_element (filter p (x ∷ xs)) z ≡ is_element (x ∷ xs) z && p z
    equal x xs same true e rest =
        let passes : p z ≡ true = sym (ap p same) ∙ e in
        rw (element_head x xs z same, passes, e) (element_head x (filter p xs) z same)
    equal x xs same false e rest =
        let fails : p z ≡ false = sym (ap p same) ∙ e in
        rw (fails, e) (rest ∙ rw (fails, and-false (is_element xs z)) (sym (and-false (is_element (x ∷ xs) z))))

pub filter_is_set : (p : ℕ → Bool) (xs : List ℕ) → IsStrictlyIncreasing xs → IsSetOf (λ z. is_element xs z && p z) (filter p xs)
filter_is_set p xs up = record { ascending = IsStrictlyIncreasing-filter p xs up; numbers = element_filter p xs }

pub intersection_is_filter : IntersectionIsFilter
intersection_is_filter one other found up set = set_is_one_list (in_both one other) found (filter (is_element other) one) set (filter_is_set (is_element other) one up)

pub difference_is_filter : DifferenceIsFilter
difference_is_filter one other found up set = set_is_one_list (in_difference one other) found (filter (λ x. not (is_element other x)) one) set (filter_is_set (λ x. not (is_element other x)) one up)

-- ---- a set of numbers below a limit

range_rises : (n : ℕ) → IsStrictlyIncreasing (range_with_len 0 n)
range_rises n k inside =
    let long : length (range_with_len 0 n) ≡ n = length-range_with_len 0 n in
    rw (get_or-range_with_len 0 n k 0 (omega (arith, inside, long)), get_or-range_with_len 0 n (k + 1) 0 (omega (arith, inside, long))) (omega arith)

in_range : (n x : ℕ) → x < n → is_element (range_with_len 0 n) x ≡ true
in_range n x less = element_at (range_with_len 0 n) x x (omega (arith, less, length-range_with_len 0 n)) (omega (arith, get_or-range_with_len 0 n x 0 less))

pub set_below_is_filter : SetBelowIsFilter
set_below_is_filter has limit found below set =
    set_is_one_list has found (filter has (range_with_len 0 limit)) set
    (record { ascending = IsStrictlyIncreasing-filter has (range_with_len 0 limit) (range_rises limit); numbers = λ x. element_filter has (range_with_len 0 limit) x ∙ all x (has x) refl })
  where
    all : (x : ℕ) (b : Bool) → has x ≡ b → (is_element (range_with_len 0 limit) x && has x) ≡ has x
    all x true e = rw (in_range limit x (below x e), e) refl
    all x false e = rw (e, and-false (is_element (range_with_len 0 limit) x)) refl

pub ruleset laws = (set_is_one_list, intersection_is_filter, difference_is_filter)
