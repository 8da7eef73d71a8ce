-- The numbers of pairs.
use Rattle.std.proofs.Common.{◌≡◌, ℕ, ◌+◌, ◌-◌, ◌*◌, ◌<◌, ◌≤◌, All, Bool, false, true, List, [], ◌∷◌, None, Some, refl, sym, ap, ◌∙◌, inl, inr, arith}
use Rattle.std.specs.Prelude.{◌++◌, drop, if◌then◌else◌, map, nat_lt, not, slice_get}
use Rattle.std.specs.List.{list_all, range_with_len}
use Rattle.std.specs.List.Sorted.{IsStrictlyIncreasing}
use Rattle.std.proofs.lemmas.Bool.{and_parts, cases_lt, eq-eqb, lt-ltb, ltb-true, ne_eqb}
use Rattle.std.proofs.Math.Nat.{mul-le-mul_right}
use Rattle.std.proofs.lemmas.List.{append_assoc}
use Rattle.std.proofs.lemmas.Option.{same_Some}
use Rattle.vers_bits.specs.Walk.{TakesFirst}
use Rattle.std.proofs.lemmas.List.Elements.{All-head, All-map, All-tail, All-weaker}
use Rattle.std.proofs.lemmas.List.Sums.{AllPass-from_list_all}
use Rattle.std.proofs.lemmas.Bool.Decides.{nat_tests}
use Rattle.inverted.specs.inside.Windows.{documents_of, lists_of}
use Rattle.vers_sorted.proofs.PublicLaws.{each_next-rising}
use Rattle.vers_sorted.specs.Sorted.{each_next}
use Rattle.inverted.specs.declared.fault.InvertedError.TheVariants.{TooLarge, OutOfRange, NotAscending}
use Rattle.inverted.specs.Makers.{do_ascend, is_before, is_in_range, lists_from, number_of, paired_with, refusal_of}
use Rattle.inverted.proofs.Windows.{after_window, before_window, in_window, no_documents}

-- ---- pairs that have an index

-- the term and the document of a pair are below their limits
abbrev pub IsInRange : ℕ → ℕ → ℕ × ℕ → Type 0
IsInRange terms universe p = (p.0 < terms) × (p.1 < universe)

is_within : (terms universe : ℕ) (p : ℕ × ℕ) → is_in_range terms universe p ≡ true → IsInRange terms universe p
is_within terms universe p h =
    let parts = and_parts (nat_lt p.0 terms) (nat_lt p.1 universe) h in
    (ltb-true p.0 terms parts.0, ltb-true p.1 universe parts.1)

-- what pairs without a reason against them are
pub record HasIndex (terms universe : ℕ) (pairs : List (ℕ × ℕ)) : Type 0 where
  pub fits : terms * universe ≤ 18446744073709551615
  pub in_range : All (IsInRange terms universe) pairs
  pub ascend : do_ascend pairs ≡ true

-- there is no reason only if each test passes
pub no_reason : (large within ascend : Bool) → (if large then Some TooLarge else (if not within then Some OutOfRange else (if not ascend then Some NotAscending else None))) ≡ None
    → (large ≡ false) × (within ≡ true) × (ascend ≡ true)
no_reason true within ascend h = cc
no_reason false false ascend h = cc
no_reason false true false h = cc
no_reason false true true h = (refl, refl, refl)

pub has_index : (terms universe : ℕ) (pairs : List (ℕ × ℕ)) → refusal_of terms universe pairs ≡ None → HasIndex terms universe pairs
has_index terms universe pairs h =
    let parts = no_reason (nat_lt 18446744073709551615 (terms * universe)) (list_all (is_in_range terms universe) pairs) (do_ascend pairs) h in
    record {
      fits = grind (arith, nat_tests, parts.0);
      in_range = All-weaker (λ p. is_in_range terms universe p ≡ true) (IsInRange terms universe) (is_within terms universe) pairs (AllPass-from_list_all (is_in_range terms universe) pairs parts.1);
      ascend = parts.2;
    }

-- ---- their numbers

-- a later term starts where an earlier one has ended
later_term : (s t universe : ℕ) → s < t → s * universe + universe ≤ t * universe
later_term s t universe less = let grown : (s + 1) * universe ≤ t * universe = mul-le-mul_right universe (omega (arith, less)) in omega (arith, grown)

paired_yes : (pair : ℕ × ℕ) (pairs : List (ℕ × ℕ)) (t : ℕ) → pair.0 ≡ t → paired_with (pair ∷ pairs) t ≡ pair.1 ∷ paired_with pairs t
paired_yes pair pairs t same = rw (eq-eqb pair.0 t same) refl

paired_no : (pair : ℕ × ℕ) (pairs : List (ℕ × ℕ)) (t : ℕ) → (pair.0 ≡ t → ⊥) → paired_with (pair ∷ pairs) t ≡ paired_with pairs t
paired_no pair pairs t apart = rw (ne_eqb pair.0 t apart) refl

-- the window of a term has the documents that are paired with it
pub window_is : (pairs : List (ℕ × ℕ)) (terms universe t : ℕ) → All (IsInRange terms universe) pairs → documents_of (map (number_of universe) pairs) universe t ≡ paired_with pairs t
window_is [] terms universe t within = no_documents universe t
window_is (pair ∷ pairs) terms universe t within =
    let rest = window_is pairs terms universe t (All-tail (IsInRange terms universe) pair pairs within) in
    let here : IsInRange terms universe pair = All-head (IsInRange terms universe) pair pairs within in
    let n = number_of universe pair in
    let ns = map (number_of universe) pairs in
    elim (cases_lt pair.0 t) [
      | inl less ↦ before_window universe t n ns (omega (arith, later_term pair.0 t universe less, here.1)) ∙ rest ∙ sym (paired_no pair pairs t (λ same. omega (arith, same, less)))
      | inr from ↦ elim (cases_lt t pair.0) [
        | inl more ↦ after_window universe t n ns (omega (arith, later_term t pair.0 universe more)) ∙ rest ∙ sym (paired_no pair pairs t (λ same. omega (arith, same, more)))
        | inr upto ↦
            let same : pair.0 ≡ t = omega (arith, from, upto) in
            let start : pair.0 * universe ≡ t * universe = ap (λ k. k * universe) same in
            let document : n - t * universe ≡ pair.1 = omega (arith, start) in
            in_window universe t n ns (omega (arith, start)) (omega (arith, start, here.1)) ∙ rw (document, rest) (sym (paired_yes pair pairs t same))
      ]
    ]

map_same : {Y : Type 0} (f g : ℕ → Y) → ((t : ℕ) → f t ≡ g t) → (xs : List ℕ) → map f xs ≡ map g xs
map_same f g same [] = refl
map_same f g same (x ∷ xs) = rw (same x, map_same f g same xs) refl

pub lists_are : (pairs : List (ℕ × ℕ)) (terms universe : ℕ) → All (IsInRange terms universe) pairs → lists_of (map (number_of universe) pairs) universe terms ≡ lists_from pairs terms
unfolding lists_of lists_from
lists_are pairs terms universe within =
    map_same (documents_of (map (number_of universe) pairs) universe) (paired_with pairs) (λ t. window_is pairs terms universe t within) (range_with_len 0 terms)

-- a pair that is before another has the lesser number
lesser : (terms universe : ℕ) (p q : ℕ × ℕ) → IsInRange terms universe p → is_before p q ≡ true → number_of universe p < number_of universe q
lesser terms universe p q within before = elim (cases_lt p.0 q.0) [
  | inl less ↦ omega (arith, later_term p.0 q.0 universe less, within.1)
  | inr from ↦ omega (arith, same_term p q from before)
]
  where
    both : (p q : ℕ × ℕ) → q.0 ≤ p.0 → is_before p q ≡ true → (p.0 ≡ q.0) × (p.1 < q.1)
    both p q from before = grind (arith, nat_tests)

    same_term : (p q : ℕ × ℕ) → q.0 ≤ p.0 → is_before p q ≡ true → number_of universe p < number_of universe q
    same_term p q from before =
        let same = both p q from before in
        let start : p.0 * universe ≡ q.0 * universe = ap (λ k. k * universe) same.0 in
        omega (arith, start, same.1)

ascend : (terms universe : ℕ) (pairs : List (ℕ × ℕ)) → All (IsInRange terms universe) pairs → do_ascend pairs ≡ true → each_next nat_lt (map (number_of universe) pairs) ≡ true
ascend terms universe [] within h = refl
ascend terms universe (p ∷ []) within h = refl
ascend terms universe (p ∷ q ∷ pairs) within h =
    let parts = and_parts (is_before p q) (do_ascend (q ∷ pairs)) h in
    let here = lesser terms universe p q (All-head (IsInRange terms universe) p (q ∷ pairs) within) parts.0 in
    rw (lt-ltb (number_of universe p) (number_of universe q) here, ascend terms universe (q ∷ pairs) (All-tail (IsInRange terms universe) p (q ∷ pairs) within) parts.1) refl

-- the numbers rise where the pairs ascend
pub numbers_rise : (terms universe : ℕ) (pairs : List (ℕ × ℕ)) → HasIndex terms universe pairs → IsStrictlyIncreasing (map (number_of universe) pairs)
numbers_rise terms universe pairs has = (each_next-rising (map (number_of universe) pairs)).0 (ascend terms universe pairs has.in_range has.ascend)

-- the numbers are below the end of the last term
pub numbers_within : (terms universe : ℕ) (pairs : List (ℕ × ℕ)) → HasIndex terms universe pairs → All (λ n. n < terms * universe) (map (number_of universe) pairs)
numbers_within terms universe pairs has =
    All-map (λ n. n < terms * universe) (number_of universe) pairs
    (All-weaker (IsInRange terms universe) (λ p. number_of universe p < terms * universe) (λ p within. omega (arith, later_term p.0 terms universe within.0, within.1)) pairs has.in_range)

-- the number of a pair in range has 64 bits
pub number_fits : (terms universe : ℕ) (p : ℕ × ℕ) → terms * universe ≤ 18446744073709551615 → IsInRange terms universe p → (p.0 * universe ≤ 18446744073709551615) × (number_of universe p ≤ 18446744073709551615)
number_fits terms universe p fits within =
    let grown : p.0 * universe + universe ≤ terms * universe = later_term p.0 terms universe within.0 in
    (omega (arith, grown, fits), omega (arith, grown, fits, within.1))

-- ---- one pair more

module _ {pair : ℕ × ℕ} {old new : List (ℕ × ℕ)} (terms universe : ℕ) (within : All (IsInRange terms universe) old) (taken : TakesFirst old (Some pair) new) where
  parts : old ≡ pair ∷ new
  parts = split old taken.given taken.left
    where
      split : (xs : List (ℕ × ℕ)) → Some pair ≡ slice_get xs 0 → new ≡ drop 1 xs → xs ≡ pair ∷ new
      split [] given left = cc
      split (x ∷ xs) given left = rw (same_Some pair x given, left) refl

  both : IsInRange terms universe pair × All (IsInRange terms universe) new
  both = let at : All (IsInRange terms universe) (pair ∷ new) = rw parts at within in (All-head (IsInRange terms universe) pair new at, All-tail (IsInRange terms universe) pair new at)

  pub first_in_range : IsInRange terms universe pair
  first_in_range = both.0

  pub next_in_range : All (IsInRange terms universe) new
  next_in_range = both.1

  pub next_numbers : (whole read pushed : List ℕ) → whole ≡ read ++ map (number_of universe) old → pushed ≡ read ++ number_of universe pair ∷ [] → whole ≡ pushed ++ map (number_of universe) new
  next_numbers whole read pushed before now = before ∙ rw (now, parts) (sym (append_assoc read (number_of universe pair ∷ []) (map (number_of universe) new)))
