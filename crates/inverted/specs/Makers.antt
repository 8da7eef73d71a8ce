-- The index of pairs of a term and a document, and when there is none.
use Rattle.std.specs.Prelude.{ℕ, ◌+◌, ◌*◌, ◌==◌, ◌&&◌, ◌||◌, not, Bool, true, List, [], ◌∷◌, filter, map, nat_lt, Option, None, Some, if◌then◌else◌}
use Rattle.std.specs.List.{list_all, range_with_len}
use Rattle.inverted.specs.Lists.{Lists}
use Rattle.inverted.specs.declared.fault.InvertedError.{InvertedError}
use Rattle.inverted.specs.declared.fault.InvertedError.TheVariants.{TooLarge, OutOfRange, NotAscending}

-- the documents that are paired with term t
abbrev pub paired_with : List (ℕ × ℕ) → ℕ → List ℕ
paired_with pairs t = map (λ p. p.1) (filter (λ p. p.0 == t) pairs)

-- the lists of the terms below `terms`
unfoldable pub lists_from : List (ℕ × ℕ) → ℕ → List (List ℕ)
lists_from pairs terms = map (paired_with pairs) (range_with_len 0 terms)

-- the number of a pair of a term and a document
abbrev pub number_of : ℕ → ℕ × ℕ → ℕ
number_of universe p = p.0 * universe + p.1

-- the index of pairs
abbrev pub index_of : ℕ → ℕ → List (ℕ × ℕ) → Lists
index_of terms universe pairs = record { lists = lists_from pairs terms; universe = universe; numbers = map (number_of universe) pairs }

-- whether the term and the document of a pair are below their limits
abbrev pub is_in_range : ℕ → ℕ → ℕ × ℕ → Bool
is_in_range terms universe p = nat_lt p.0 terms && nat_lt p.1 universe

-- whether a pair is before another: by term, and pairs of one term by document
abbrev pub is_before : ℕ × ℕ → ℕ × ℕ → Bool
is_before p q = nat_lt p.0 q.0 || (p.0 == q.0 && nat_lt p.1 q.1)

-- whether each pair is before the next one
abbrev pub do_ascend : List (ℕ × ℕ) → Bool
do_ascend [] = true
do_ascend (p ∷ []) = true
do_ascend (p ∷ q ∷ more) = is_before p q && do_ascend (q ∷ more)

-- why pairs below these limits have no index: the first reason that applies
abbrev pub refusal_of : ℕ → ℕ → List (ℕ × ℕ) → Option InvertedError
refusal_of terms universe pairs =
    if nat_lt 18446744073709551615 (terms * universe) then Some TooLarge
    else (if not (list_all (is_in_range terms universe) pairs) then Some OutOfRange
    else (if not (do_ascend pairs) then Some NotAscending else None))
