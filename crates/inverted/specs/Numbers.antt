-- An index by the list of its numbers, and when a list of numbers is that of an index.
use Rattle.std.specs.Prelude.{◌≡◌, ℕ, ◌*◌, ◌/◌, ◌%◌, ◌^◌, ◌<◌, All, not, List, length, map, nat_lt, Option, None, Some, if◌then◌else◌}
use Rattle.std.specs.List.{list_all}
use Rattle.std.specs.List.Sorted.{IsStrictlyIncreasing}
use Rattle.vers_sorted.specs.Sorted.{each_next}
use Rattle.inverted.specs.Lists.{Lists}
use Rattle.inverted.specs.Makers.{lists_from}
use Rattle.inverted.specs.declared.fault.InvertedError.{InvertedError}
use Rattle.inverted.specs.declared.fault.InvertedError.TheVariants.{TooLarge, OutOfRange, NotAscending}

-- the term and the document of a number
abbrev pub pair_of : ℕ → ℕ → ℕ × ℕ
pair_of universe number = (number / universe, number % universe)

-- the index of numbers: its lists are those of their pairs
abbrev pub index_of_numbers : ℕ → ℕ → List ℕ → Lists
index_of_numbers terms universe numbers = record { lists = lists_from (map (pair_of universe) numbers) terms; universe = universe; numbers = numbers }

-- why numbers are those of no index with these terms and this universe: the first reason that applies
abbrev pub refusal_of_numbers : ℕ → ℕ → List ℕ → Option InvertedError
refusal_of_numbers terms universe numbers =
    if nat_lt 18446744073709551615 (terms * universe) then Some TooLarge
    else (if not (list_all (λ number. nat_lt number (terms * universe)) numbers) then Some OutOfRange
    else (if not (each_next nat_lt numbers) then Some NotAscending else None))

-- the index is that of its numbers, which ascend strictly and are below the end of the last term; this end, the number of terms and the universe have 64 bits
pub record IsOfNumbers (index : Lists) : Type 0 where
  pub value : index ≡ index_of_numbers (length index.lists) index.universe index.numbers
  pub ascending : IsStrictlyIncreasing index.numbers
  pub below : All (λ number. number < length index.lists * index.universe) index.numbers
  pub terms_fit : length index.lists < 2 ^ 64
  pub universe_fits : index.universe < 2 ^ 64
  pub end_fits : length index.lists * index.universe < 2 ^ 64
