-- What is found in a range, by the relations over the elements at its positions.
use Rattle.vers_wavelet.proofs.Names.{◌≡◌, ℕ, ◌+◌, ◌<◌, ◌≤◌, List, [], length, Option, Some, None, refl, sym, ap, ◌∙◌, subst, arith, ◌↔◌, slice_range, IsSome, IfSome, Any, range_elements, kth_by_size, greatest_up_to, least_from, IsKth, IsPredecessor, IsSuccessor}
use Rattle.vers_wavelet.proofs.Elements.{never, not_lt}
use Rattle.vers_wavelet.proofs.BySize.{kth_none, kth_is}
use Rattle.vers_wavelet.proofs.Ranges.{elements_inside, elements_past, elements_reversed, range_has_kth}
use Rattle.vers_wavelet.proofs.Nearest.{none_up_to, none_from, greatest_up_to_predecessor, greatest_up_to_some, least_from_successor, least_from_some}

-- what is found in some list of elements, and not in an empty one, is found in a range within the list
inside : (find : List ℕ → Option ℕ) (xs : List ℕ) (a b : ℕ) → find [] ≡ None → IsSome (find (range_elements xs a b)) → (a ≤ b) × (b ≤ length xs)
inside find xs a b none some =
    let empty = λ (e : range_elements xs a b ≡ []). never {X = ⊥} (subst IsSome (ap find e ∙ none) some) in
    (not_lt (λ reversed. empty (elements_reversed xs a b (omega arith))), not_lt (λ past. empty (elements_past xs a b past)))

if_some : (o : Option ℕ) (P : ℕ → Type 0) → ((x : ℕ) → o ≡ Some x → P x) → IfSome o P
if_some None P each = tt
if_some (Some x) P each = each x refl

found_in : (find : List ℕ → Option ℕ) (R : List ℕ → ℕ → Type 0) → find [] ≡ None → ((xs : List ℕ) (x : ℕ) → find xs ≡ Some x → R xs x) → (xs : List ℕ) (a b : ℕ)
    → IfSome (find (range_elements xs a b)) (λ x. R (slice_range xs a b) x)
found_in find R none is xs a b =
    if_some (find (range_elements xs a b)) (λ x. R (slice_range xs a b) x) (λ x found.
    let within = inside find xs a b none (subst IsSome (sym found) refl) in
    is (slice_range xs a b) x (ap find (sym (elements_inside xs a b within.1)) ∙ found))

some_in : (find : List ℕ → Option ℕ) (H : List ℕ → Type 0) → find [] ≡ None → ((xs : List ℕ) → IsSome (find xs) ↔ H xs) → (xs : List ℕ) (a b : ℕ)
    → IsSome (find (range_elements xs a b)) ↔ (a ≤ b) × (b ≤ length xs) × H (slice_range xs a b)
some_in find H none has xs a b = (
  λ some.
      let within = inside find xs a b none some in
      (within.0, within.1, (has (slice_range xs a b)).0 (subst IsSome (ap find (elements_inside xs a b within.1)) some)),
  λ held.
      subst IsSome (ap find (sym (elements_inside xs a b held.1))) ((has (slice_range xs a b)).1 held.2),
)

-- elements by size, and neighbours
pub range_kth : (xs : List ℕ) (a b i : ℕ) → IfSome (kth_by_size (range_elements xs a b) i) (λ x. IsKth (slice_range xs a b) i x)
    × (IsSome (kth_by_size (range_elements xs a b) i) ↔ (b ≤ length xs) × (a + i < b))
range_kth xs a b i = (found_in (λ l. kth_by_size l i) (λ l x. IsKth l i x) (kth_none [] i (omega arith)) (λ l x. (kth_is l i x).0) xs a b, range_has_kth xs a b i)

pub range_predecessor : (xs : List ℕ) (a b s : ℕ) → IfSome (greatest_up_to (range_elements xs a b) s) (λ x. IsPredecessor (slice_range xs a b) s x)
    × (IsSome (greatest_up_to (range_elements xs a b) s) ↔ (a ≤ b) × (b ≤ length xs) × Any (λ y. y ≤ s) (slice_range xs a b))
range_predecessor xs a b s = (
  found_in (λ l. greatest_up_to l s) (λ l x. IsPredecessor l s x) (none_up_to s) (λ l x. (greatest_up_to_predecessor l s x).0) xs a b,
  some_in (λ l. greatest_up_to l s) (λ l. Any (λ y. y ≤ s) l) (none_up_to s) (λ l. greatest_up_to_some l s) xs a b,
)

pub range_successor : (xs : List ℕ) (a b s : ℕ) → IfSome (least_from (range_elements xs a b) s) (λ x. IsSuccessor (slice_range xs a b) s x)
    × (IsSome (least_from (range_elements xs a b) s) ↔ (a ≤ b) × (b ≤ length xs) × Any (λ y. s ≤ y) (slice_range xs a b))
range_successor xs a b s = (
  found_in (λ l. least_from l s) (λ l x. IsSuccessor l s x) (none_from s) (λ l x. (least_from_successor l s x).0) xs a b,
  some_in (λ l. least_from l s) (λ l. Any (λ y. s ≤ y) l) (none_from s) (λ l. least_from_some l s) xs a b,
)
