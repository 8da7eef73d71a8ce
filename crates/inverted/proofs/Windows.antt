-- The numbers of one term are a window of all.
use Rattle.std.proofs.Common.{◌≡◌, ℕ, All, Option, drop, zero, suc, ◌+◌, ◌-◌, ◌*◌, ◌<◌, ◌≤◌, true, false, cond, List, [], ◌∷◌, length, get_or, Some, None, refl, sym, subst, ◌∙◌, inl, inr, arith}
use Rattle.std.specs.Prelude.{min, nat_le, nat_lt, slice_get, slice_index_or}
use Rattle.std.specs.List.{range_with_len}
use Rattle.std.specs.List.Sorted.{IsNonDecreasing, IsStrictlyIncreasing}
use Rattle.std.proofs.Math.ListN.{get_or-eq_default}
use Rattle.std.proofs.lemmas.Bool.{cases_lt, le-leb, le-ltb, lt-leb, lt-ltb}
use Rattle.std.proofs.lemmas.List.Sums.{sum_by-cons}
use Rattle.std.proofs.lemmas.List.Elements.{All-from_get_or, All-map}
use Rattle.std.proofs.lemmas.List.Kept.{AllPairs-from_increasing}
use Rattle.std.proofs.lemmas.List.FromFn.{get_or-map-range_with_len, length-map-range_with_len}
use Rattle.std.proofs.lemmas.Option.{slice_get-get_or, slice_get_past}
use Rattle.std.proofs.Math.Bool.{and-false}
use Rattle.std.proofs.Math.Nat.{mul-le-mul_right}
use Rattle.vers_sorted.specs.Sorted.{is_element, below, least_not_below}
use Rattle.vers_sorted.proofs.PublicLaws.{element_head, element_none, element_tail}
use Rattle.vers_bits.specs.Walk.{TakesFirst}
use Rattle.inverted.specs.inside.Windows.{IsWithin, documents_of, clip, lists_of}

-- ---- the lists

pub terms_are : (numbers : List ℕ) (universe terms : ℕ) → length (lists_of numbers universe terms) ≡ terms
unfolding lists_of
terms_are numbers universe terms = length-map-range_with_len (documents_of numbers universe) 0 terms

pub list_is : (numbers : List ℕ) (universe terms t : ℕ) → t < terms → slice_index_or (lists_of numbers universe terms) t [] ≡ documents_of numbers universe t
unfolding lists_of
list_is numbers universe terms t inside = get_or-map-range_with_len (documents_of numbers universe) 0 terms t t [] inside (omega arith)

pub no_list : (numbers : List ℕ) (universe terms t : ℕ) → terms ≤ t → slice_index_or (lists_of numbers universe terms) t [] ≡ []
no_list numbers universe terms t past = get_or-eq_default (lists_of numbers universe terms) [] (omega (arith, terms_are numbers universe terms, past))

-- the numbers of a term fit where those of all terms do
pub term_fits : (terms universe t : ℕ) → t < terms → terms * universe ≤ 18446744073709551615 → t * universe + universe ≤ 18446744073709551615
term_fits terms universe t inside fits = omega (arith, fits, grown)
  where
    grown : (t + 1) * universe ≤ terms * universe
    grown = mul-le-mul_right universe (omega (arith, inside))

-- ---- one more number

module _ (universe t n : ℕ) (ns : List ℕ) where
  pub before_window : n < t * universe → documents_of (n ∷ ns) universe t ≡ documents_of ns universe t
  unfolding documents_of
  before_window less = rw (lt-leb (t * universe) n less) refl

  pub in_window : t * universe ≤ n → n < t * universe + universe → documents_of (n ∷ ns) universe t ≡ (n - t * universe) ∷ documents_of ns universe t
  unfolding documents_of
  in_window from less = rw (le-leb (t * universe) n from, lt-ltb n (t * universe + universe) less) refl

  pub after_window : t * universe + universe ≤ n → documents_of (n ∷ ns) universe t ≡ documents_of ns universe t
  unfolding documents_of
  after_window more = rw (le-ltb n (t * universe + universe) more, and-false (nat_le (t * universe) n)) refl

below_yes : (n : ℕ) (ns : List ℕ) (v : ℕ) → n < v → below (n ∷ ns) v ≡ 1 + below ns v
unfolding below
below_yes n ns v less = sum_by-cons (λ m. cond (nat_lt m v) 1 0) n ns ∙ rw (lt-ltb n v less) refl

below_no : (n : ℕ) (ns : List ℕ) (v : ℕ) → v ≤ n → below (n ∷ ns) v ≡ below ns v
unfolding below
below_no n ns v more = sum_by-cons (λ m. cond (nat_lt m v) 1 0) n ns ∙ rw (le-ltb n v more) (omega arith)

pub no_documents : (universe t : ℕ) → documents_of [] universe t ≡ []
unfolding documents_of
no_documents universe t = refl

pub none_below : (v : ℕ) → below [] v ≡ 0
unfolding below
none_below v = refl

-- ---- counts

-- the documents below d are the numbers below that of d, without those below the window
pub rank_is : (ns : List ℕ) (universe t d : ℕ) → d ≤ universe → below (documents_of ns universe t) d + below ns (t * universe) ≡ below ns (t * universe + d)
rank_is [] universe t d few = rw (no_documents universe t, none_below d, none_below (t * universe), none_below (t * universe + d)) refl
rank_is (n ∷ ns) universe t d few =
    let rest = rank_is ns universe t d few in
    let s = t * universe in
    elim (cases_lt n s) [
      | inl less ↦ rw (before_window universe t n ns less) (omega (arith, rest, below_yes n ns s less, below_yes n ns (s + d) (omega (arith, less))))
      | inr from ↦ elim (cases_lt n (s + universe)) [
        | inr past ↦ rw (after_window universe t n ns past) (omega (arith, rest, below_no n ns s from, below_no n ns (s + d) (omega (arith, past, few))))
        | inl within ↦ rw (in_window universe t n ns from within) (elim (cases_lt n (s + d)) [
          | inl less ↦ omega (arith, rest, below_no n ns s from, below_yes n ns (s + d) less, below_yes (n - s) (documents_of ns universe t) d (omega (arith, less, from)))
          | inr more ↦ omega (arith, rest, below_no n ns s from, below_no n ns (s + d) more, below_no (n - s) (documents_of ns universe t) d (omega (arith, more, from)))
        ])
      ]
    ]

-- there are as many documents as numbers of the window
pub length_is : (ns : List ℕ) (universe t : ℕ) → length (documents_of ns universe t) + below ns (t * universe) ≡ below ns (t * universe + universe)
length_is [] universe t = rw (no_documents universe t, none_below (t * universe), none_below (t * universe + universe)) refl
length_is (n ∷ ns) universe t =
    let rest = length_is ns universe t in
    let s = t * universe in
    elim (cases_lt n s) [
      | inl less ↦ rw (before_window universe t n ns less) (omega (arith, rest, below_yes n ns s less, below_yes n ns (s + universe) (omega (arith, less))))
      | inr from ↦ elim (cases_lt n (s + universe)) [
        | inr past ↦ rw (after_window universe t n ns past) (omega (arith, rest, below_no n ns s from, below_no n ns (s + universe) past))
        | inl within ↦ rw (in_window universe t n ns from within) (omega (arith, rest, below_no n ns s from, below_yes n ns (s + universe) within))
      ]
    ]

-- all documents are below the universe, so a greater number has the rank of the universe
pub all_below : (ns : List ℕ) (universe t d : ℕ) → universe ≤ d → below (documents_of ns universe t) d ≡ below (documents_of ns universe t) universe
all_below [] universe t d more = rw (no_documents universe t, none_below d, none_below universe) refl
all_below (n ∷ ns) universe t d more =
    let rest = all_below ns universe t d more in
    let s = t * universe in
    elim (cases_lt n s) [
      | inl less ↦ rw (before_window universe t n ns less) rest
      | inr from ↦ elim (cases_lt n (s + universe)) [
        | inr past ↦ rw (after_window universe t n ns past) rest
        | inl within ↦ rw (in_window universe t n ns from within)
            (omega (arith, rest, below_yes (n - s) (documents_of ns universe t) d (omega (arith, within, from, more)), below_yes (n - s) (documents_of ns universe t) universe (omega (arith, within, from))))
      ]
    ]

-- ---- membership

pub element_is : (ns : List ℕ) (universe t d : ℕ) → d < universe → is_element ns (t * universe + d) ≡ is_element (documents_of ns universe t) d
element_is [] universe t d few = rw (no_documents universe t, element_none d, element_none (t * universe + d)) refl
element_is (n ∷ ns) universe t d few =
    let rest = element_is ns universe t d few in
    let s = t * universe in
    elim (cases_lt n s) [
      | inl less ↦ rw (before_window universe t n ns less, element_tail n ns (s + d) (λ same. omega (arith, same, less))) rest
      | inr from ↦ elim (cases_lt n (s + universe)) [
        | inr past ↦ rw (after_window universe t n ns past, element_tail n ns (s + d) (λ same. omega (arith, same, past, few))) rest
        | inl within ↦ rw (in_window universe t n ns from within) (elim (cases_lt n (s + d)) [
          | inl less ↦ element_tail n ns (s + d) (λ same. omega (arith, same, less)) ∙ rest ∙ sym (element_tail (n - s) (documents_of ns universe t) d (λ same. omega (arith, same, less, from)))
          | inr more ↦ elim (cases_lt (s + d) n) [
            | inl above ↦ element_tail n ns (s + d) (λ same. omega (arith, same, above)) ∙ rest ∙ sym (element_tail (n - s) (documents_of ns universe t) d (λ same. omega (arith, same, above, from)))
            | inr upto ↦ element_head n ns (s + d) (omega (arith, more, upto)) ∙ sym (element_head (n - s) (documents_of ns universe t) d (omega (arith, more, upto)))
          ]
        ])
      ]
    ]

-- none is at or past the universe
pub element_past : (ns : List ℕ) (universe t d : ℕ) → universe ≤ d → is_element (documents_of ns universe t) d ≡ false
element_past [] universe t d past = rw (no_documents universe t) (element_none d)
element_past (n ∷ ns) universe t d more =
    let rest = element_past ns universe t d more in
    let s = t * universe in
    elim (cases_lt n s) [
      | inl less ↦ rw (before_window universe t n ns less) rest
      | inr from ↦ elim (cases_lt n (s + universe)) [
        | inr past ↦ rw (after_window universe t n ns past) rest
        | inl within ↦ rw (in_window universe t n ns from within) (element_tail (n - s) (documents_of ns universe t) d (λ same. omega (arith, same, within, more, from)) ∙ rest)
      ]
    ]

-- ---- the next document, and the document at a position

IsFrom : ℕ → List ℕ → Type 0
IsFrom v ns = (j : ℕ) → j < length ns → v ≤ get_or ns j 0

tail_rises : (n : ℕ) (ns : List ℕ) → IsNonDecreasing (n ∷ ns) → IsNonDecreasing ns
tail_rises n ns up i j d before inside = up (suc i) (suc j) d (omega (arith, before)) (omega (arith, inside))

from_head : (n : ℕ) (ns : List ℕ) (v : ℕ) → IsNonDecreasing (n ∷ ns) → v ≤ n → IsFrom v ns
unfolding IsFrom
from_head n ns v up from j inside = omega (arith, from, up 0 (suc j) 0 (omega arith) (omega (arith, inside)))

tail_from : (v n : ℕ) (ns : List ℕ) → IsFrom v (n ∷ ns) → IsFrom v ns
unfolding IsFrom
tail_from v n ns from j inside = from (suc j) (omega (arith, inside))

head_from : (v n : ℕ) (ns : List ℕ) → IsFrom v (n ∷ ns) → v ≤ n
unfolding IsFrom
head_from v n ns from = from 0 (omega arith)

-- past the window there is none
past_window : (ns : List ℕ) (universe t : ℕ) → IsFrom (t * universe + universe) ns → documents_of ns universe t ≡ []
past_window [] universe t from = no_documents universe t
past_window (n ∷ ns) universe t from =
    after_window universe t n ns (head_from (t * universe + universe) n ns from) ∙ past_window ns universe t (tail_from (t * universe + universe) n ns from)

none_below_from : (ns : List ℕ) (v : ℕ) → IsFrom v ns → below ns v ≡ 0
none_below_from [] v from = none_below v
none_below_from (n ∷ ns) v from = below_no n ns v (head_from v n ns from) ∙ none_below_from ns v (tail_from v n ns from)

clip_yes : (s u n : ℕ) → n < s + u → clip s u (Some n) ≡ Some (n - s)
clip_yes s u n less = rw (lt-ltb n (s + u) less) refl

clip_no : (s u n : ℕ) → s + u ≤ n → clip s u (Some n) ≡ None
clip_no s u n more = rw (le-ltb n (s + u) more) refl

clip_past : (s u : ℕ) (ns : List ℕ) (j : ℕ) → IsFrom (s + u) ns → clip s u (slice_get ns j) ≡ None
unfolding IsFrom
clip_past s u ns j from = elim (cases_lt j (length ns)) [
  | inl inside ↦ rw (slice_get-get_or ns j 0 inside) (clip_no s u (get_or ns j 0) (from j inside))
  | inr past ↦ rw (slice_get_past ns j past) refl
]

skip : (n : ℕ) (ns : List ℕ) (v : ℕ) → n < v → least_not_below (n ∷ ns) v ≡ least_not_below ns v
unfolding least_not_below
skip n ns v less = rw (lt-leb v n less) refl

here : (n : ℕ) (ns : List ℕ) (v : ℕ) → v ≤ n → least_not_below (n ∷ ns) v ≡ Some n
unfolding least_not_below
here n ns v from = rw (le-leb v n from) refl

pub no_next : (v : ℕ) → least_not_below [] v ≡ None
unfolding least_not_below
no_next v = refl

pub next_is : (ns : List ℕ) (universe t d : ℕ) → IsNonDecreasing ns → d < universe → clip (t * universe) universe (least_not_below ns (t * universe + d)) ≡ least_not_below (documents_of ns universe t) d
next_is [] universe t d up few = rw (no_documents universe t, no_next d, no_next (t * universe + d)) refl
next_is (n ∷ ns) universe t d up few =
    let rest = next_is ns universe t d (tail_rises n ns up) few in
    let s = t * universe in
    elim (cases_lt n (s + d)) [
      | inl less ↦ rw (skip n ns (s + d) less) (elim (cases_lt n s) [
        | inl lesser ↦ rw (before_window universe t n ns lesser) rest
        | inr from ↦ rw (in_window universe t n ns from (omega (arith, less, few)), skip (n - s) (documents_of ns universe t) d (omega (arith, less, from))) rest
      ])
      | inr more ↦ rw (here n ns (s + d) more) (elim (cases_lt n (s + universe)) [
        | inl within ↦ rw (in_window universe t n ns (omega (arith, more)) within, here (n - s) (documents_of ns universe t) d (omega (arith, more))) (clip_yes s universe n within)
        | inr past ↦ rw (after_window universe t n ns past, past_window ns universe t (from_head n ns (s + universe) up past), no_next d) (clip_no s universe n past)
      ])
    ]

-- no document is at or past the universe
pub next_past : (ns : List ℕ) (universe t d : ℕ) → universe ≤ d → least_not_below (documents_of ns universe t) d ≡ None
next_past [] universe t d past = rw (no_documents universe t) (no_next d)
next_past (n ∷ ns) universe t d more =
    let rest = next_past ns universe t d more in
    let s = t * universe in
    elim (cases_lt n s) [
      | inl less ↦ rw (before_window universe t n ns less) rest
      | inr from ↦ elim (cases_lt n (s + universe)) [
        | inr past ↦ rw (after_window universe t n ns past) rest
        | inl within ↦ rw (in_window universe t n ns from within) (skip (n - s) (documents_of ns universe t) d (omega (arith, within, more, from)) ∙ rest)
      ]
    ]

all_from : (n : ℕ) (ns : List ℕ) (v : ℕ) → IsNonDecreasing (n ∷ ns) → v ≤ n → IsFrom v (n ∷ ns)
unfolding IsFrom
all_from n ns v up from zero inside = from
all_from n ns v up from (suc j) inside = omega (arith, from, up 0 (suc j) 0 (omega arith) inside)

get_next : (n : ℕ) (ns : List ℕ) (i j : ℕ) → i ≡ suc j → slice_get (n ∷ ns) i ≡ slice_get ns j
get_next n ns i j same = rw same refl

pub get_is : (ns : List ℕ) (universe t i : ℕ) → IsNonDecreasing ns → clip (t * universe) universe (slice_get ns (below ns (t * universe) + i)) ≡ slice_get (documents_of ns universe t) i
get_is [] universe t i up = rw (no_documents universe t, slice_get_past {X = ℕ} [] (below [] (t * universe) + i) (omega arith), slice_get_past {X = ℕ} [] i (omega arith)) refl
get_is (n ∷ ns) universe t i up =
    let s = t * universe in
    elim (cases_lt n s) [
      | inl less ↦ rw (before_window universe t n ns less, get_next n ns (below (n ∷ ns) s + i) (below ns s + i) (omega (arith, below_yes n ns s less))) (get_is ns universe t i (tail_rises n ns up))
      | inr from ↦ elim (cases_lt n (s + universe)) [
        | inr past ↦ rw (after_window universe t n ns past, past_window ns universe t (from_head n ns (s + universe) up past), slice_get_past {X = ℕ} [] i (omega arith))
            (clip_past s universe (n ∷ ns) (below (n ∷ ns) s + i) (all_from n ns (s + universe) up past))
        | inl within ↦ rw (in_window universe t n ns from within) (inside n ns universe t i up from within (λ j. get_is ns universe t j (tail_rises n ns up)))
      ]
    ]
  where
    inside : (n : ℕ) (ns : List ℕ) (universe t i : ℕ) → IsNonDecreasing (n ∷ ns) → t * universe ≤ n → n < t * universe + universe
        → ((j : ℕ) → clip (t * universe) universe (slice_get ns (below ns (t * universe) + j)) ≡ slice_get (documents_of ns universe t) j)
        → clip (t * universe) universe (slice_get (n ∷ ns) (below (n ∷ ns) (t * universe) + i)) ≡ slice_get ((n - t * universe) ∷ documents_of ns universe t) i
    inside n ns universe t zero up from within later =
        let none : below (n ∷ ns) (t * universe) + 0 ≡ 0 = omega (arith, below_no n ns (t * universe) from, none_below_from ns (t * universe) (from_head n ns (t * universe) up from)) in
        rw none (clip_yes (t * universe) universe n within)
    inside n ns universe t (suc j) up from within later =
        rw (get_next n ns (below (n ∷ ns) (t * universe) + suc j) (below ns (t * universe) + j) (omega (arith, below_no n ns (t * universe) from)))
        (later j)

-- a position from which on there is none
pub get_past : (ns : List ℕ) (universe t i n : ℕ) → IsNonDecreasing ns → n ≡ length ns → n - below ns (t * universe) ≤ i → None ≡ slice_get (documents_of ns universe t) i
get_past ns universe t i n up same past =
    sym (sym (get_is ns universe t i up) ∙ rw (slice_get_past ns (below ns (t * universe) + i) (omega (arith, past, same))) refl)

-- the rank of any number
pub rank_any : (ns : List ℕ) (universe t d m : ℕ) → m ≡ min d universe → below (documents_of ns universe t) d + below ns (t * universe) ≡ below ns (t * universe + m)
rank_any ns universe t d m same = elim (cases_lt universe d) [
  | inl past ↦ let most : m ≡ universe = omega (arith, same, past) in
      rw (most, all_below ns universe t d (omega (arith, past))) (rank_is ns universe t universe (omega arith))
  | inr few ↦ let least : m ≡ d = omega (arith, same, few) in rw least (rank_is ns universe t d few)
]

-- ---- documents ascend

cons_from : (v n : ℕ) (ns : List ℕ) → v ≤ n → IsFrom v ns → IsFrom v (n ∷ ns)
unfolding IsFrom
cons_from v n ns here later zero inside = here
cons_from v n ns here later (suc j) inside = later j (omega (arith, inside))

none_from : (v : ℕ) → IsFrom v []
unfolding IsFrom
none_from v j inside = absurd (omega (arith, inside))

documents_from : (ns : List ℕ) (universe t v : ℕ) → IsFrom v ns → IsFrom (v - t * universe) (documents_of ns universe t)
documents_from [] universe t v from = rw (no_documents universe t) (none_from (v - t * universe))
documents_from (n ∷ ns) universe t v from =
    let rest = documents_from ns universe t v (tail_from v n ns from) in
    let s = t * universe in
    elim (cases_lt n s) [
      | inl less ↦ rw (before_window universe t n ns less) rest
      | inr after ↦ elim (cases_lt n (s + universe)) [
        | inr past ↦ rw (after_window universe t n ns past) rest
        | inl within ↦ rw (in_window universe t n ns after within) (cons_from (v - s) (n - s) (documents_of ns universe t) (omega (arith, head_from v n ns from)) rest)
      ]
    ]

cons_strict : (n : ℕ) (ns : List ℕ) → IsFrom (n + 1) ns → IsStrictlyIncreasing ns → IsStrictlyIncreasing (n ∷ ns)
unfolding IsFrom
cons_strict n ns from up zero inside = omega (arith, from 0 (omega (arith, inside)))
cons_strict n ns from up (suc k) inside =
    let next : suc k + 1 ≡ suc (k + 1) = omega arith in
    rw next (up k (omega (arith, inside)))

strict_tail : (n : ℕ) (ns : List ℕ) → IsStrictlyIncreasing (n ∷ ns) → IsStrictlyIncreasing ns
strict_tail n ns up k inside =
    let next : suc k + 1 ≡ suc (k + 1) = omega arith in
    subst (λ m. get_or ns k 0 < get_or (n ∷ ns) m 0) next (up (suc k) (omega (arith, inside)))

strict_from : (n : ℕ) (ns : List ℕ) → IsStrictlyIncreasing (n ∷ ns) → IsFrom (n + 1) ns
unfolding IsFrom
strict_from n ns up j inside = let above = AllPairs-from_increasing (n ∷ ns) up 0 (suc j) 0 (omega arith) (omega (arith, inside)) in omega (arith, above)

from_same : (v w : ℕ) (ns : List ℕ) → v ≡ w → IsFrom v ns → IsFrom w ns
from_same v w ns same from = rw same at from

pub nothing_ascends : IsStrictlyIncreasing []
nothing_ascends k inside = absurd (omega (arith, inside))

pub documents_strict : (ns : List ℕ) (universe t : ℕ) → IsStrictlyIncreasing ns → IsStrictlyIncreasing (documents_of ns universe t)
documents_strict [] universe t up = rw (no_documents universe t) up
documents_strict (n ∷ ns) universe t up =
    let rest = documents_strict ns universe t (strict_tail n ns up) in
    let s = t * universe in
    elim (cases_lt n s) [
      | inl less ↦ rw (before_window universe t n ns less) rest
      | inr after ↦ elim (cases_lt n (s + universe)) [
        | inr past ↦ rw (after_window universe t n ns past) rest
        | inl within ↦ rw (in_window universe t n ns after within) (cons_strict (n - s) (documents_of ns universe t)
            (from_same (n + 1 - s) (n - s + 1) (documents_of ns universe t) (omega (arith, after)) (documents_from ns universe t (n + 1) (strict_from n ns up))) rest)
      ]
    ]

pub lists_ascend : (ns : List ℕ) (universe terms : ℕ) → IsStrictlyIncreasing ns → All IsStrictlyIncreasing (lists_of ns universe terms)
unfolding lists_of
lists_ascend ns universe terms up =
    All-map IsStrictlyIncreasing (documents_of ns universe) (range_with_len 0 terms)
    (All-from_get_or (λ t. IsStrictlyIncreasing (documents_of ns universe t)) (range_with_len 0 terms) 0 (λ i inside. documents_strict ns universe (get_or (range_with_len 0 terms) i 0) up))

-- ---- documents are below the universe

pub false-true : {A : Type 0} → false ≡ true → A
false-true e = cc

pub listed_below : (ns : List ℕ) (universe terms t d : ℕ) → is_element (slice_index_or (lists_of ns universe terms) t []) d ≡ true → d < universe
listed_below ns universe terms t d has = elim (cases_lt t terms) [
  | inr past ↦ false-true (sym (element_none d) ∙ rw (no_list ns universe terms t past) at has)
  | inl inside ↦ elim (cases_lt d universe) [
    | inl below ↦ below
    | inr past ↦ false-true (sym (element_past ns universe t d past) ∙ rw (list_is ns universe terms t inside) at has)
  ]
]

-- ---- a walk along the documents

drop_next : (n : ℕ) (ns : List ℕ) (i j : ℕ) → i ≡ suc j → drop i (n ∷ ns) ≡ drop j ns
drop_next n ns i j same = rw same refl

-- the numbers below the window are skipped
module _ (universe t : ℕ) where
  skips_one : (n : ℕ) (ns : List ℕ) → n < t * universe → drop (below (n ∷ ns) (t * universe)) (n ∷ ns) ≡ drop (below ns (t * universe)) ns
  skips_one n ns less = drop_next n ns (below (n ∷ ns) (t * universe)) (below ns (t * universe)) (omega (arith, below_yes n ns (t * universe) less))

  skips_none : (n : ℕ) (ns : List ℕ) → IsNonDecreasing (n ∷ ns) → t * universe ≤ n → drop (below (n ∷ ns) (t * universe)) (n ∷ ns) ≡ n ∷ ns
  skips_none n ns up from =
      let none : below (n ∷ ns) (t * universe) ≡ 0 = below_no n ns (t * universe) from ∙ none_below_from ns (t * universe) (from_head n ns (t * universe) up from) in
      rw none refl

  pub skipped_documents : (ns : List ℕ) → IsNonDecreasing ns → documents_of (drop (below ns (t * universe)) ns) universe t ≡ documents_of ns universe t
  skipped_documents [] up = rw (none_below (t * universe)) refl
  skipped_documents (n ∷ ns) up = elim (cases_lt n (t * universe)) [
    | inl less ↦ rw (skips_one n ns less, before_window universe t n ns less) (skipped_documents ns (tail_rises n ns up))
    | inr from ↦ rw (skips_none n ns up from) refl
  ]

  skipped_rises : (ns : List ℕ) → IsNonDecreasing ns → IsNonDecreasing (drop (below ns (t * universe)) ns)
  skipped_rises [] up = rw (none_below (t * universe)) up
  skipped_rises (n ∷ ns) up = elim (cases_lt n (t * universe)) [
    | inl less ↦ rw (skips_one n ns less) (skipped_rises ns (tail_rises n ns up))
    | inr from ↦ rw (skips_none n ns up from) up
  ]

  skipped_from : (ns : List ℕ) → IsNonDecreasing ns → IsFrom (t * universe) (drop (below ns (t * universe)) ns)
  skipped_from [] up = rw (none_below (t * universe)) (none_from (t * universe))
  skipped_from (n ∷ ns) up = elim (cases_lt n (t * universe)) [
    | inl less ↦ rw (skips_one n ns less) (skipped_from ns (tail_rises n ns up))
    | inr from ↦ rw (skips_none n ns up from) (all_from n ns (t * universe) up from)
  ]

  pub skipped_within : (ns : List ℕ) → IsNonDecreasing ns → t * universe + universe ≤ 18446744073709551615 → IsWithin (drop (below ns (t * universe)) ns) universe t
  unfolding IsFrom
  skipped_within ns up fits = record { ascending = skipped_rises ns up; from = skipped_from ns up; fits = fits }

  -- the first number is that of the first document, if there is one
  takes : (ns : List ℕ) → IsNonDecreasing ns → IsFrom (t * universe) ns → TakesFirst (documents_of ns universe t) (clip (t * universe) universe (slice_get ns 0)) (documents_of (drop 1 ns) universe t)
  takes [] up from = record { given = rw (no_documents universe t) refl; left = rw (no_documents universe t) refl }
  takes (n ∷ ns) up from = elim (cases_lt n (t * universe + universe)) [
    | inl within ↦ record {
      given = rw (in_window universe t n ns (head_from (t * universe) n ns from) within) (clip_yes (t * universe) universe n within);
      left = rw (in_window universe t n ns (head_from (t * universe) n ns from) within) refl;
    }
    | inr past ↦ record {
      given = rw (past_window (n ∷ ns) universe t (all_from n ns (t * universe + universe) up past)) (clip_no (t * universe) universe n past);
      left = rw (past_window (n ∷ ns) universe t (all_from n ns (t * universe + universe) up past), past_window ns universe t (from_head n ns (t * universe + universe) up past)) refl;
    }
  ]

  pub takes_first : (old : List ℕ) (number : Option ℕ) (new : List ℕ) → IsWithin old universe t → TakesFirst old number new → TakesFirst (documents_of old universe t) (clip (t * universe) universe number) (documents_of new universe t)
  unfolding IsFrom
  takes_first old number new within step = rw (step.given, step.left) (takes old within.ascending within.from)

-- a walk of no term has no documents
pub without_universe : (ns : List ℕ) → documents_of ns 0 0 ≡ []
unfolding IsFrom
without_universe ns = past_window ns 0 0 (λ j inside. omega arith)
