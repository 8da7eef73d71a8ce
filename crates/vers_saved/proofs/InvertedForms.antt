-- Saved forms of inverted indexes.
use Rattle.vers_saved.proofs.Names.{◌≡◌, ℕ, zero, suc, ◌+◌, ◌-◌, ◌*◌, ◌<◌, ◌≤◌, ◌&&◌, false, true, List, [], ◌∷◌, length, get_or, take, drop, refl, sym, ap, subst, ◌∙◌, inl, inr, arith, All, IsNonDecreasing, IsStrictlyIncreasing, and_from, and_parts, cases_lt, get_or_past, get_or-drop, get_or-take, take_all, length-drop, drop-drop, drop-take, sorted_words, are_of_list, are_of_sparse, IsWhole, each_next, each_next-rising, None}
use Rattle.std.specs.Prelude.{nat_lt}
use Rattle.std.specs.List.{list_all}
use Rattle.std.proofs.lemmas.Bool.{le-ltb, lt-ltb, ltb-true}
use Rattle.std.proofs.lemmas.List.Sums.{list_all-from_AllPass}
use Rattle.std.proofs.lemmas.Map.Keys.{non_decreasing_from_sorted, sorted_from_strictly_increasing}
use Rattle.inverted.specs.Lists.{Lists}
use Rattle.inverted.specs.Numbers.{IsOfNumbers, index_of_numbers, refusal_of_numbers}
use Rattle.inverted.proofs.PublicLaws.{each_term_has_list}
use Rattle.vers_sorted.specs.Sorted.{order_of}
use Rattle.vers_saved.specs.Faults.{are_of_inverted, end_of_numbers}
use Rattle.vers_saved.specs.Format.{inverted_words}
use Rattle.vers_saved.specs.declared.kind.TheConstants.{INVERTED_LISTS}
use Rattle.vers_saved.specs.inside.Telling.{sorted_tell}
use Rattle.vers_saved.proofs.WordBytes.{AreWords}
use Rattle.vers_saved.proofs.Shapes.{as_many, bounds_are, refuted, within_bounds}
use Rattle.vers_saved.proofs.SortedParts.{are_own, length-sorted, own_decoded}
use Rattle.vers_saved.proofs.SortedForms.{elements_fit, of_sparse, sparse_tested}
use Rattle.vers_saved.proofs.WordLists.{whole_numbers}

up : (ns : List ℕ) → IsStrictlyIncreasing ns → IsNonDecreasing ns
up ns rise = non_decreasing_from_sorted _ (sorted_from_strictly_increasing _ rise)

all_below : (ns : List ℕ) (limit : ℕ) → All (λ n. n < limit) ns → list_all (λ n. nat_lt n limit) ns ≡ true
all_below ns limit below = list_all-from_AllPass (λ n. nat_lt n limit) ns (λ k d h. lt-ltb _ _ (below k d h))

-- ---- the words of an index

module _ (index : Lists) (is : IsOfNumbers index) where
  inverted_fit : AreWords (sorted_words index.numbers) → AreWords (inverted_words index)
  inverted_fit fit zero = is.terms_fit
  inverted_fit fit (suc zero) = is.universe_fits
  inverted_fit fit (suc (suc k)) = fit k

  are_inverted_own : are_of_inverted (inverted_words index) ≡ true
  are_inverted_own =
      let rise : each_next (order_of true) index.numbers ≡ true = (each_next-rising index.numbers).1 is.ascending in
      and_from _ _ (lt-ltb _ _ is.end_fits)
      (and_from _ _ (are_own index.numbers true rise) (rw (own_decoded index.numbers (up index.numbers is.ascending)) (all_below index.numbers (length index.lists * index.universe) is.below)))

  pub whole_inverted : length (sorted_words index.numbers) + 2 ≤ 288230376151711743 → AreWords (sorted_words index.numbers) → IsWhole INVERTED_LISTS (length (inverted_words index)) 64 (inverted_words index)
  whole_inverted few fit =
      whole_numbers INVERTED_LISTS (inverted_words index) refl refl (within_bounds INVERTED_LISTS (length (inverted_words index)) 64 refl (omega (arith, few, length-sorted index.numbers)))
      (inverted_fit fit) are_inverted_own

  -- the numbers are words, and so are those of the list
  numbers_fit : AreWords index.numbers
  numbers_fit k = elim (cases_lt k (length index.numbers)) [
    | inl less ↦ omega (arith, is.below k 0 less, is.end_fits)
    | inr past ↦ rw (get_or_past index.numbers k 0 past) (omega arith)
  ]

  pub whole_index : length (inverted_words index) ≤ 288230376151711743 → IsWhole INVERTED_LISTS (length (inverted_words index)) 64 (inverted_words index)
  whole_index few = whole_inverted (omega (arith, few)) (elements_fit index.numbers numbers_fit (omega (arith, few)))

from_two : (k : ℕ) → (k ≡ 0 → ⊥) → (k ≡ 1 → ⊥) → 2 + (k - 2) ≡ k
from_two zero some more = absurd (some refl)
from_two (suc zero) some more = absurd (more refl)
from_two (suc (suc k)) some more = omega arith

-- a word after the first two is one of the list
pub inverted_word : (index : Lists) (k word : ℕ) → (k ≡ 0 → ⊥) → (k ≡ 1 → ⊥) → word ≡ get_or (sorted_words index.numbers) (k - 2) 0 → word ≡ get_or (inverted_words index) k 0
inverted_word index k word some more is = is ∙ get_or-drop 2 (inverted_words index) (k - 2) 0 ∙ ap (λ p. get_or (inverted_words index) p 0) (from_two k some more)

pub inverted_few : (ws : List ℕ) (count width : ℕ) → IsWhole INVERTED_LISTS count width ws → (count ≡ length ws) × (count ≤ 288230376151711743) × (64 ≡ width) × (5 ≤ length ws)
inverted_few ws count width whole =
    let b = bounds_are INVERTED_LISTS count width ws refl whole in
    let same : count ≡ length ws = as_many INVERTED_LISTS count width ws refl refl whole in
    (same, omega (arith, b), omega (arith, b), omega (arith, b, same))

pub ruleset inverted = (inverted_few)

-- ---- an index of words

-- the words after the first two
rest_all : (ws : List ℕ) → take (length ws - 2) (drop 2 ws) ≡ drop 2 ws
rest_all ws = take_all (length ws - 2) (drop 2 ws) (omega (arith, length-drop 2 ws))

first_two : (ws : List ℕ) → 2 ≤ length ws → ws ≡ get_or ws 0 0 ∷ get_or ws 1 0 ∷ drop 2 ws
first_two [] h = absurd (omega arith)
first_two (a ∷ []) h = absurd (omega arith)
first_two (a ∷ b ∷ ws) h = refl

no_refusal : (terms universe : ℕ) (ns : List ℕ) → terms * universe < 18446744073709551616 → All (λ n. n < terms * universe) ns → IsStrictlyIncreasing ns → refusal_of_numbers terms universe ns ≡ None
no_refusal terms universe ns fits below rise = rw (le-ltb 18446744073709551615 (terms * universe) (omega (arith, fits)), all_below ns (terms * universe) below, (each_next-rising ns).1 rise) refl

module _ (ws : List ℕ) (count width : ℕ) (whole : IsWhole INVERTED_LISTS count width ws) where
  own : (m : List ℕ) × IsStrictlyIncreasing m × (drop 2 ws ≡ sorted_words m) × All (λ n. n < end_of_numbers ws) m
  own = of_sparse (end_of_numbers ws ∷ drop 2 ws) (and_parts _ _ whole.ordered).1

  pub inverted_rest : (m : List ℕ) × IsNonDecreasing m × (take (length ws - 2) (drop 2 ws) ≡ sorted_words m)
  inverted_rest = (own.0, up own.0 own.1, rest_all ws ∙ own.2)

  -- a list with these words has the numbers of an index
  module _ (ns : List ℕ) (ascend : IsNonDecreasing ns) (is : sorted_words ns ≡ take (length ws - 2) (drop 2 ws)) where
    own_numbers : own.0 ≡ ns
    own_numbers =
        let words : sorted_words own.0 ≡ sorted_words ns = sym (is ∙ rest_all ws ∙ own.2) in
        sorted_tell own.0 ns (up own.0 own.1) ascend (ap length words) refl words

    pub none_against : refusal_of_numbers (get_or ws 0 0) (get_or ws 1 0) ns ≡ None
    none_against =
        no_refusal (get_or ws 0 0) (get_or ws 1 0) ns (ltb-true _ _ (and_parts _ _ whole.ordered).0) (subst (All (λ n. n < end_of_numbers ws)) own_numbers own.3) (subst IsStrictlyIncreasing own_numbers own.1)

    pub inverted_again : (index : Lists) → index ≡ index_of_numbers (get_or ws 0 0) (get_or ws 1 0) ns → (length (inverted_words index) ≡ count) × (inverted_words index ≡ ws)
    inverted_again index made =
        let few = inverted_few ws count width whole in
        let words : inverted_words index ≡ ws =
        ap inverted_words made ∙ ap (λ n. n ∷ get_or ws 1 0 ∷ sorted_words ns) (each_term_has_list (get_or ws 0 0) (get_or ws 1 0) ns) ∙ ap (λ l. get_or ws 0 0 ∷ get_or ws 1 0 ∷ l) (is ∙ rest_all ws)
        ∙ sym (first_two ws (omega (arith, few.3))) in
        (ap length words ∙ sym few.0, words)

-- ---- a test of these

rest_of : (from n : ℕ) (ws : List ℕ) → 2 ≤ n → drop 2 (take n (drop from ws)) ≡ take (n - 2) (drop (from + 2) ws)
rest_of from n ws some =
    let split : 2 + (n - 2) ≡ n = omega arith in
    ap (λ m. drop 2 (take m (drop from ws))) (sym split) ∙ drop-take 2 (n - 2) (drop from ws) ∙ ap (take (n - 2)) (drop-drop 2 from ws)

tested : (t : List ℕ) (end count last : ℕ) → end_of_numbers t < 18446744073709551616 → end ≡ end_of_numbers t → are_of_list true (drop 2 t) ≡ true → count ≡ get_or (drop 2 t) 0 0 → last ≡ get_or (drop 2 t) 2 0
    → (count ≡ 0 → true ≡ are_of_inverted t) × ((count ≡ 0 → ⊥) → nat_lt last end ≡ are_of_inverted t)
tested t end count last fits is_end are is_count is_last =
    let test = sparse_tested (end_of_numbers t ∷ drop 2 t) end count last are is_end is_count is_last in
    let whole : are_of_inverted t ≡ are_of_sparse (end_of_numbers t ∷ drop 2 t) = ap (λ b. b && are_of_sparse (end_of_numbers t ∷ drop 2 t)) (lt-ltb (end_of_numbers t) 18446744073709551616 fits) in
    (λ none. test.0 none ∙ sym whole, λ some. test.1 some ∙ sym whole)

pub short_inverted : (t : List ℕ) → length t < 5 → false ≡ are_of_inverted t
short_inverted t short =
    sym (refuted (are_of_inverted t) (λ h.
    let m = of_sparse (end_of_numbers t ∷ drop 2 t) (and_parts (nat_lt (end_of_numbers t) 18446744073709551616) (are_of_sparse (end_of_numbers t ∷ drop 2 t)) h).1 in
    omega (arith, short, ap length m.2, length-sorted m.0, length-drop 2 t)))

word_in : (ws : List ℕ) (from n k p word : ℕ) → k < n → p ≡ from + k → word ≡ get_or ws p 0 → word ≡ get_or (take n (drop from ws)) k 0
word_in ws from n k p word few position is = is ∙ ap (λ q. get_or ws q 0) position ∙ sym (get_or-drop from ws k 0) ∙ sym (get_or-take n (drop from ws) k 0 few)

later_in : (t : List ℕ) (k word : ℕ) → word ≡ get_or t (2 + k) 0 → word ≡ get_or (drop 2 t) k 0
later_in t k word is = is ∙ sym (get_or-drop 2 t k 0)

-- n words from one of them on whose list ascends are those of an index by the first two, the length and the last number
pub inverted_tested : (ws : List ℕ) (from n terms universe end count last : ℕ) → 5 ≤ n → terms ≡ get_or ws from 0 → universe ≡ get_or ws (from + 1) 0 → terms * universe < 18446744073709551616 → end ≡ terms * universe
    → are_of_list true (take (n - 2) (drop (from + 2) ws)) ≡ true → count ≡ get_or ws (from + 2) 0 → last ≡ get_or ws (from + 2 + 2) 0
    → (count ≡ 0 → true ≡ are_of_inverted (take n (drop from ws))) × ((count ≡ 0 → ⊥) → nat_lt last end ≡ are_of_inverted (take n (drop from ws)))
inverted_tested ws from n terms universe end count last some is_terms is_universe fits is_end are is_count is_last =
    let t : List ℕ = take n (drop from ws) in
    let first : terms ≡ get_or t 0 0 = word_in ws from n 0 from terms (omega (arith, some)) (omega arith) is_terms in
    let second : universe ≡ get_or t 1 0 = word_in ws from n 1 (from + 1) universe (omega (arith, some)) (omega arith) is_universe in
    let product : terms * universe ≡ end_of_numbers t = ap (λ m. m * universe) first ∙ ap (λ m. get_or t 0 0 * m) second in
    tested t end count last (subst (λ m. m < 18446744073709551616) product fits) (is_end ∙ product) (ap (are_of_list true) (rest_of from n ws (omega (arith, some))) ∙ are)
    (later_in t 0 count (word_in ws from n 2 (from + 2) count (omega (arith, some)) (omega arith) is_count)) (later_in t 2 last (word_in ws from n 4 (from + 2 + 2) last (omega (arith, some)) (omega arith) is_last))
