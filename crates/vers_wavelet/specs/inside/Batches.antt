-- Queries that are answered level by level, in groups.
use Rattle.std.specs.Prelude.{◌≡◌, ℕ, ◌+◌, ◌-◌, ◌<◌, ◌≤◌, Bool, cond, List, length, slice_index, slice_index_or, Some, None}
use Rattle.vers_bits.specs.Bits.{select}
use Rattle.vers_wavelet.specs.Makers.{digit}
use Rattle.vers_wavelet.specs.declared.wavelet.batch.group.Asked.{Asked}
use Rattle.vers_wavelet.specs.declared.wavelet.batch.group.Group.{Group}
use Rattle.vers_wavelet.specs.declared.wavelet.batch.select.SelectQuery.{SelectQuery}
use Rattle.vers_wavelet.specs.inside.Levels.{final_position, start}
use Rattle.vers_wavelet.specs.inside.Walks.{HasClimbed}

-- R relates each of the first j elements of xs to the element of ys at the same position; all others are the same
pub record Changed {Q : Type 0} (R : Q → Q → Type 0) (xs ys : List Q) (j : ℕ) : Type 0 where
  pub long : length ys ≡ length xs
  pub first : (p : ℕ) (d : Q) → p < j → p < length xs → R (slice_index_or xs p d) (slice_index_or ys p d)
  pub others : (p : ℕ) (d : Q) → j ≤ p → slice_index_or ys p d ≡ slice_index_or xs p d

-- the answer of a query so far is the position at level k on the climb from the final position of its occurrence
abbrev pub IsClimbing : List (List Bool) → ℕ → ℕ → SelectQuery → Type 0
IsClimbing ls n k query = HasClimbed ls n query.symbol (final_position ls query.symbol 0 + query.rank) k query.answer

-- a query for positions past the end of a list of queries
abbrev pub no_query : SelectQuery
no_query = record { rank = 0; symbol = 0; answer = None }

-- the numbers that a group searches among the ones of a level, or among its zeros
abbrev pub asked : Bool → Group → Asked
asked bit group = cond bit group.ones group.zeros

-- query j of a group, which climbs to level l by digit i, has a slot among the numbers for this digit; the number there
-- is that of the query's position among those that the bit leads to
pub record HasNumber (l : List Bool) (i : ℕ) (query : SelectQuery) (j : ℕ) (group : Group) : Type 0 where
  pub slot : slice_index group.slots j < (asked (digit query.symbol i) group).count
  pub number : (p : ℕ) → query.answer ≡ Some p → start (digit query.symbol i) l ≤ p
      → slice_index (asked (digit query.symbol i) group).numbers (slice_index group.slots j) ≡ p - start (digit query.symbol i) l

-- the slot of query j has the position at level l of the bit with this number
pub record HasPosition (l : List Bool) (i : ℕ) (query : SelectQuery) (j : ℕ) (group : Group) : Type 0 where
  pub slot : slice_index group.slots j < 64
  pub position : (p : ℕ) → query.answer ≡ Some p → start (digit query.symbol i) l ≤ p
      → slice_index (asked (digit query.symbol i) group).numbers (slice_index group.slots j)
      ≡ select (digit query.symbol i) l (p - start (digit query.symbol i) l)
