-- How many lists of documents are stored as one list of numbers.
use Rattle.std.specs.Prelude.{ℕ, All, ◌+◌, ◌-◌, ◌*◌, ◌<◌, ◌≤◌, ◌&&◌, Bool, List, length, slice_index, filter, map, nat_le, nat_lt, Option, Some, None, if◌then◌else◌}
use Rattle.std.specs.List.{range_with_len}
use Rattle.std.specs.List.Sorted.{IsNonDecreasing, IsStrictlyIncreasing}

-- whether a number is that of a document of a term
abbrev pub is_of : ℕ → ℕ → ℕ → Bool
is_of universe t number = nat_le (t * universe) number && nat_lt number (t * universe + universe)

-- the documents of a term
unfoldable pub documents_of : List ℕ → ℕ → ℕ → List ℕ
documents_of numbers universe t = map (λ number. number - t * universe) (filter (is_of universe t) numbers)

-- all lists
unfoldable pub lists_of : List ℕ → ℕ → ℕ → List (List ℕ)
lists_of numbers universe terms = map (documents_of numbers universe) (range_with_len 0 terms)

-- the document of a number from `start` on, if it is below the end of the term
abbrev pub clip : ℕ → ℕ → Option ℕ → Option ℕ
clip start universe None = None
clip start universe (Some number) = if nat_lt number (start + universe) then Some (number - start) else None

-- the numbers ascend strictly and are below the end of the last term; this end, the number of terms and the universe have 64 bits
pub record IsIndex (numbers : List ℕ) (universe terms : ℕ) : Type 0 where
  pub ascending : IsStrictlyIncreasing numbers
  pub within : All (λ number. number < terms * universe) numbers
  pub fits : terms * universe ≤ 18446744073709551615
  pub terms_fit : terms < 18446744073709551616
  pub universe_fits : universe < 18446744073709551616

-- the numbers that a walk along a term has left: they ascend from the term's first on, and its end has 64 bits
pub record IsWithin (numbers : List ℕ) (universe t : ℕ) : Type 0 where
  pub ascending : IsNonDecreasing numbers
  pub from : (i : ℕ) → i < length numbers → t * universe ≤ slice_index numbers i
  pub fits : t * universe + universe ≤ 18446744073709551615
