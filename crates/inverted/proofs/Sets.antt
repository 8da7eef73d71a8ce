-- The sets of several terms.
use Rattle.std.proofs.Common.{◌≡◌, ℕ, ◌<◌, Bool, true, false, List, [], ◌∷◌, length, map, arith, inl, inr, refl, ap, ◌∙◌}
use Rattle.std.specs.Prelude.{◌&&◌, ◌||◌, not, IfOk, Result, if◌then◌else◌}
use Rattle.std.specs.List.{list_all, list_any}
use Rattle.std.specs.List.Sorted.{IsNonDecreasing}
use Rattle.std.proofs.lemmas.Map.Keys.{non_decreasing_from_sorted, sorted_from_strictly_increasing}
use Rattle.std.proofs.lemmas.Result.{IfOk-weaker}
use Rattle.std.proofs.lemmas.Bool.{and_parts, or_cases}
use Rattle.sets.specs.Sets.{IsSetOf, in_all, in_any, in_both, in_difference_of}
use Rattle.vers_sorted.specs.Sorted.{is_element}
use Rattle.sets.proofs.PublicLaws.{set_below_is_filter}
use Rattle.inverted.proofs.Windows.{false-true}
use Rattle.inverted.specs.Lists.{Lists, documents_with, list_of, searched_term, term_of}

-- the list of a set ascends
pub ascending_set : {has : ℕ → Bool} {found : List ℕ} → IsSetOf has found → IsNonDecreasing found
ascending_set set = non_decreasing_from_sorted _ (sorted_from_strictly_increasing _ set.ascending)

-- a result that is the set of a test is the set of an equal test
pub ok_same : {V E : Type 0} (items : V → List ℕ) (r : Result V E) (p q : ℕ → Bool) → ((x : ℕ) → p x ≡ q x) → IfOk r (λ v. IsSetOf p (items v)) → IfOk r (λ v. IsSetOf q (items v))
ok_same items r p q same =
    IfOk-weaker r (λ v. IsSetOf p (items v)) (λ v. IsSetOf q (items v)) (λ v set. record { ascending = set.ascending; numbers = λ x. set.numbers x ∙ same x })

and_turned : (a b : Bool) → (a && b) ≡ (b && a)
and_turned true true = refl
and_turned true false = refl
and_turned false true = refl
and_turned false false = refl

in_none : (b : Bool) → b ≡ (b && not false)
in_none true = refl
in_none false = refl

-- without others, the difference is the first list
pub no_others : (index : Lists) (first : List ℕ) (others : List ℕ) (x : ℕ) → length others ≡ 0 → is_element first x ≡ in_difference_of first (map (list_of index) others) x
no_others index first [] x none = in_none (is_element first x)
no_others index first (t ∷ others) x none = absurd (omega (arith, none))

-- two terms have the same documents in both orders
pub in_order : (index : Lists) (one other : ℕ) (kept : Bool) (x : ℕ) → in_both (list_of index (if kept then one else other)) (list_of index (if kept then other else one)) x ≡ in_both (list_of index one) (list_of index other) x
in_order index one other true x = refl
in_order index one other false x = and_turned (is_element (list_of index other) x) (is_element (list_of index one) x)

pub all_have : (index : Lists) (terms : List ℕ) (x : ℕ) → list_all (λ one. one.has x) (map searched_term (map (term_of index) terms)) ≡ list_all (λ other. is_element other x) (map (list_of index) terms)
all_have index [] x = refl
all_have index (t ∷ terms) x = ap (λ b. is_element (list_of index t) x && b) (all_have index terms x)

pub any_has : (index : Lists) (terms : List ℕ) (x : ℕ) → list_any (λ one. one.has x) (map searched_term (map (term_of index) terms)) ≡ list_any (λ other. is_element other x) (map (list_of index) terms)
any_has index [] x = refl
any_has index (t ∷ terms) x = ap (λ b. is_element (list_of index t) x || b) (any_has index terms x)

-- ---- documents of several terms

-- all documents for which `has` is true are below the limit
abbrev IsBelow : Lists → (ℕ → Bool) → Type 0
IsBelow index has = (x : ℕ) → has x ≡ true → x < index.universe

module _ (index : Lists) (each : (t : ℕ) → IsBelow index (is_element (list_of index t))) where
  pub all_below : (first : ℕ) (others : List ℕ) → IsBelow index (in_all (list_of index first) (map (list_of index) others))
  all_below first others x h = each first x (and_parts _ _ h).0

  pub difference_below : (first : ℕ) (others : List ℕ) → IsBelow index (in_difference_of (list_of index first) (map (list_of index) others))
  difference_below first others x h = each first x (and_parts _ _ h).0

  pub any_below : (terms : List ℕ) → IsBelow index (in_any (map (list_of index) terms))
  any_below [] x h = false-true h
  any_below (t ∷ terms) x h = elim (or_cases _ _ h) [
    | inl has ↦ each t x has
    | inr has ↦ any_below terms x has
  ]

-- a set of documents of an index is one list
pub exact : {V E : Type 0} (items : V → List ℕ) (r : Result V E) (index : Lists) (has : ℕ → Bool) → IsBelow index has → IfOk r (λ v. IsSetOf has (items v)) → IfOk r (λ v. items v ≡ documents_with index has)
exact items r index has below =
    IfOk-weaker r (λ v. IsSetOf has (items v)) (λ v. items v ≡ documents_with index has) (λ v set. set_below_is_filter has index.universe (items v) below set)
