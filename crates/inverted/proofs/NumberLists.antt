-- An index by the list of its numbers.
use Rattle.std.proofs.Common.{◌≡◌, ℕ, ◌*◌, ◌<◌, Bool, false, true, List, [], ◌∷◌, zero, suc, length, Option, None, Some, refl, sym, ◌∙◌, inl, inr, arith}
use Rattle.std.specs.Prelude.{if◌then◌else◌, map, nat_lt, not}
use Rattle.std.specs.Option.{is_some}
use Rattle.std.specs.List.{list_all}
use Rattle.std.proofs.lemmas.Bool.{cases_lt, le-leb, le-ltb, lt-leb, lt-ltb, ltb-true}
use Rattle.std.proofs.lemmas.Bool.Decides.{nat_tests}
use Rattle.std.proofs.lemmas.List.Elements.{All-map, All-weaker}
use Rattle.std.proofs.lemmas.List.FromFn.{length-map-range_with_len}
use Rattle.std.proofs.lemmas.List.Sums.{AllPass-from_list_all}
use Rattle.std.proofs.lemmas.Nat.{div-add-mod'}
use Rattle.std.proofs.Math.Nat.{div-lt_iff_lt-mul, mod-lt}
use Rattle.vers_sorted.proofs.PublicLaws.{each_next-rising}
use Rattle.vers_sorted.specs.Sorted.{each_next, least_not_below}
use Rattle.inverted.specs.declared.fault.InvertedError.TheVariants.{OutOfRange, NotAscending}
use Rattle.inverted.specs.Laws.{EachTermHasList, NumbersDetermineIndex}
use Rattle.inverted.specs.Makers.{lists_from, number_of, paired_with}
use Rattle.inverted.specs.Numbers.{IsOfNumbers, index_of_numbers, pair_of, refusal_of_numbers}
use Rattle.inverted.specs.inside.Windows.{IsIndex, lists_of}
use Rattle.inverted.proofs.PairNumbers.{IsInRange, lists_are, no_reason}
use Rattle.inverted.proofs.Windows.{terms_are}

-- ---- numbers and their pairs

some_universe : (terms universe n : ℕ) → n < terms * universe → 0 < universe
some_universe terms zero n less = absurd (omega (arith, less))
some_universe terms (suc universe) n less = omega arith

-- the pair of a number below the end of the last term is in range
in_range : (terms universe n : ℕ) → n < terms * universe → IsInRange terms universe (pair_of universe n)
in_range terms universe n less =
    let some = some_universe terms universe n less in
    ((div-lt_iff_lt-mul some).1 less, mod-lt n some)

numbers_back : (universe : ℕ) (ns : List ℕ) → map (number_of universe) (map (pair_of universe) ns) ≡ ns
numbers_back universe [] = refl
numbers_back universe (n ∷ ns) = rw (div-add-mod' n universe, numbers_back universe ns) refl

-- the lists are those of the numbers' pairs
pub lists_of_pairs : (ns : List ℕ) (universe terms : ℕ) → IsIndex ns universe terms → lists_of ns universe terms ≡ lists_from (map (pair_of universe) ns) terms
lists_of_pairs ns universe terms index =
    rw (numbers_back universe ns) at (lists_are (map (pair_of universe) ns) terms universe
    (All-map (IsInRange terms universe) (pair_of universe) ns (All-weaker (λ n. n < terms * universe) (λ n. IsInRange terms universe (pair_of universe n)) (in_range terms universe) ns index.within)))

-- ---- the reasons

-- all numbers are below a limit if none is found from it on
pub below_is : (limit : ℕ) (ns : List ℕ) (found : Option ℕ) → found ≡ least_not_below ns limit → list_all (λ n. nat_lt n limit) ns ≡ not (is_some found)
unfolding least_not_below
below_is limit [] found is = rw is refl
below_is limit (n ∷ ns) found is = elim (cases_lt n limit) [
  | inl less ↦ rw (lt-ltb n limit less) (below_is limit ns found (rw (lt-leb limit n less) at is))
  | inr from ↦ rw (le-ltb n limit from, is, le-leb limit n from) refl
]

-- the reason is found by the test of an element past the end and that of the order
pub reason_is : (terms universe end : ℕ) (ns : List ℕ) (found : Option ℕ) (rise : Bool) → terms * universe < 18446744073709551616 → end ≡ terms * universe → found ≡ least_not_below ns end → rise ≡ each_next nat_lt ns
    → refusal_of_numbers terms universe ns ≡ (if is_some found then Some OutOfRange else (if not rise then Some NotAscending else None))
reason_is terms universe end ns found rise fits end_is is rise_is =
    rw (le-ltb 18446744073709551615 (terms * universe) (omega (arith, fits)), below_is (terms * universe) ns found (rw end_is at is), sym rise_is) (twice (is_some found))
  where
    twice : (past : Bool) → (if not (not past) then Some OutOfRange else (if not rise then Some NotAscending else None)) ≡ (if past then Some OutOfRange else (if not rise then Some NotAscending else None))
    twice true = refl
    twice false = refl

-- numbers without a reason against them are those of an index
pub index_from : (ns : List ℕ) (universe terms : ℕ) → universe < 18446744073709551616 → terms < 18446744073709551616 → refusal_of_numbers terms universe ns ≡ None → IsIndex ns universe terms
index_from ns universe terms universe_fits terms_fit h =
    let parts = no_reason (nat_lt 18446744073709551615 (terms * universe)) (list_all (λ n. nat_lt n (terms * universe)) ns) (each_next nat_lt ns) h in
    record {
      ascending = (each_next-rising ns).0 parts.2;
      within = All-weaker (λ n. nat_lt n (terms * universe) ≡ true) (λ n. n < terms * universe) (λ n. ltb-true n (terms * universe)) ns (AllPass-from_list_all (λ n. nat_lt n (terms * universe)) ns parts.1);
      fits = grind (arith, nat_tests, parts.0);
      terms_fit = terms_fit;
      universe_fits = universe_fits;
    }

-- ---- an index

pub is_of_numbers : (ns : List ℕ) (universe terms : ℕ) → IsIndex ns universe terms → IsOfNumbers (record { lists = lists_of ns universe terms; universe = universe; numbers = ns })
is_of_numbers ns universe terms index = record {
  value = rw (terms_are ns universe terms, lists_of_pairs ns universe terms index) refl;
  ascending = index.ascending;
  below = rw (terms_are ns universe terms) index.within;
  terms_fit = rw (terms_are ns universe terms) index.terms_fit;
  universe_fits = index.universe_fits;
  end_fits = rw (terms_are ns universe terms) (omega (arith, index.fits));
}

-- ---- laws

pub each_term_has_list : EachTermHasList
unfolding lists_from
each_term_has_list terms universe ns = length-map-range_with_len (paired_with (map (pair_of universe) ns)) 0 terms

same_index : (terms others universe another : ℕ) (ns ms : List ℕ) → terms ≡ others → universe ≡ another → ns ≡ ms → index_of_numbers terms universe ns ≡ index_of_numbers others another ms
same_index terms others universe another ns ms same_terms same_universe same_numbers = rw (same_terms, same_universe, same_numbers) refl

pub numbers_determine_index : NumbersDetermineIndex
numbers_determine_index one other is also terms universe numbers =
    is.value ∙ same_index (length one.lists) (length other.lists) one.universe other.universe one.numbers other.numbers terms universe numbers ∙ sym also.value
