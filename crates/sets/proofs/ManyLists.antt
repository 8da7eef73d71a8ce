-- The sets and bounds of many lists.
use Rattle.std.proofs.Common.{◌≡◌, ℕ, ◌+◌, Bool, true, false, List, [], ◌∷◌, length, map, min, nat_le, refl, sym, ap, ◌∙◌, arith, inl, inr}
use Rattle.std.specs.Prelude.{◌&&◌, ◌||◌, if◌then◌else◌, IfOk, Result}
use Rattle.std.proofs.Math.Bool.{and_comm}
use Rattle.std.proofs.lemmas.Bool.{cases_lt, le-leb, lt-leb}
use Rattle.vers_tally.proofs.PublicLaws.{adds_weaker}
use Rattle.vers_tally.specs.Reads.{AddsAtMost, IsWithin, Reads, plus, times}
use Rattle.std.specs.List.{list_all, list_any, sum_by}
use Rattle.std.proofs.lemmas.List.Folds.{list_all-map}
use Rattle.std.proofs.lemmas.List.Sums.{sum_by-cons}
use Rattle.std.proofs.lemmas.Result.{IfOk-weaker}
use Rattle.sets.specs.Sets.{IsSetOf, in_both}
use Rattle.vers_sorted.specs.Sorted.{is_element}
use Rattle.sets.specs.Sources.{searched_list, seek_reads, seek_reads_of, step_reads_of}

-- numbers that are the set of a test are the set of an equal test
pub ok_numbers_same : {X E : Type 0} (items : X → List ℕ) (r : Result X E) (p q : ℕ → Bool) → ((x : ℕ) → p x ≡ q x) → IfOk r (λ found. IsSetOf p (items found)) → IfOk r (λ found. IsSetOf q (items found))
ok_numbers_same items r p q same = IfOk-weaker r (λ found. IsSetOf p (items found)) (λ found. IsSetOf q (items found)) (λ found set. record { ascending = set.ascending; numbers = λ x. set.numbers x ∙ same x })

pub all_has : (lists : List (List ℕ)) (x : ℕ) → list_all (λ one. one.has x) (map searched_list lists) ≡ list_all (λ other. is_element other x) lists
all_has lists x = list_all-map (λ one. one.has x) searched_list lists

pub any_has : (lists : List (List ℕ)) (x : ℕ) → list_any (λ one. one.has x) (map searched_list lists) ≡ list_any (λ other. is_element other x) lists
any_has [] x = refl
any_has (elements ∷ lists) x = ap (λ b. is_element elements x || b) (any_has lists x)

pub all_reads : (lists : List (List ℕ)) → step_reads_of (map searched_list lists) ≡ seek_reads_of lists
all_reads [] = refl
all_reads (elements ∷ lists) = rw (all_reads lists) refl

pub all_steps : {S : Type 0} (f : S → List ℕ) (lists : List S) → sum_by (λ one. one.most_steps) (map searched_list (map f lists)) ≡ sum_by (λ list. length (f list)) lists
all_steps f [] = refl
all_steps f (list ∷ lists) = sum_by-cons (λ one. one.most_steps) (searched_list (f list)) (map searched_list (map f lists)) ∙ ap (λ n. length (f list) + n) (all_steps f lists) ∙ sym (sum_by-cons (λ l. length (f l)) list lists)

-- those of a list and others
pub steps_with : {S : Type 0} (f : S → List ℕ) (first : List ℕ) (lists : List S) → sum_by (λ one. one.most_steps) (searched_list first ∷ map searched_list (map f lists)) ≡ length first + sum_by (λ list. length (f list)) lists
steps_with f first lists = sum_by-cons (λ one. one.most_steps) (searched_list first) (map searched_list (map f lists)) ∙ ap (λ n. length first + n) (all_steps f lists)

-- ---- two lists, the shorter first

pub both_in_turn : (b : Bool) (one other first second : List ℕ) → first ≡ (if b then one else other) → second ≡ (if b then other else one) → (x : ℕ) → (is_element first x && is_element second x) ≡ in_both one other x
both_in_turn true one other first second e h x = rw (e, h) refl
both_in_turn false one other first second e h x = rw (e, h) (and_comm (is_element other x) (is_element one x))

turned : (n : ℕ) (p q : Reads) → IsWithin (times n (plus p q)) (times n (plus q p))
turned n p q = grind arith

pub least_steps : {old new : Reads} (one other first second : List ℕ) → first ≡ (if nat_le (length one) (length other) then one else other) → second ≡ (if nat_le (length one) (length other) then other else one)
    → AddsAtMost old new (times (length first + 1) (plus (seek_reads first) (seek_reads second))) → AddsAtMost old new (times (min (length one) (length other) + 1) (plus (seek_reads one) (seek_reads other)))
least_steps one other first second e h adds = elim (cases_lt (length other) (length one)) [
  | inl less ↦
      let longer : nat_le (length one) (length other) ≡ false = lt-leb (length one) (length other) less in
      let first_is : first ≡ other = e ∙ ap (λ b. if b then one else other) longer in
      let second_is : second ≡ one = h ∙ ap (λ b. if b then other else one) longer in
      let least : min (length one) (length other) ≡ length other = omega arith in
      rw least (adds_weaker (rw (first_is, second_is) at adds) (turned (length other + 1) (seek_reads other) (seek_reads one)))
  | inr more ↦
      let shorter : nat_le (length one) (length other) ≡ true = le-leb (length one) (length other) more in
      let first_is : first ≡ one = e ∙ ap (λ b. if b then one else other) shorter in
      let second_is : second ≡ other = h ∙ ap (λ b. if b then other else one) shorter in
      let least : min (length one) (length other) ≡ length one = omega arith in
      rw least (rw (first_is, second_is) at adds)
]
