-- Iterators from both ends whose items are read by a counter.
use Rattle.std.specs.Prelude.{◌≡◌, ℕ, ◌+◌, ◌-◌, List, length, take, drop, reverse, slice_get, Option, Some, None, Result, MatchOption, MatchResult, IsSome}
use Rattle.vers_tally.specs.Reads.{Reads}

-- the remaining items, and what reading one of them adds at most
pub record Walking (X : Type 0) : Type 0 where
  pub left : List X
  pub step : Reads

-- ---- items that take memory, which may be refused
module _ {X E : Type 0} where
  -- the element that was due was made, or its allocation failed, or none was due
  abbrev pub MayRefuse : Option (Result X E) → Option X → Type 0
  MayRefuse made due = MatchOption made (due ≡ None) (λ r. MatchResult r (λ x. due ≡ Some x) (λ _. IsSome due))

  -- n elements were skipped from the front and the next one was made or its allocation failed, or all of at most n were skipped
  pub record MakesNth (n : ℕ) (old : List X) (made : Option (Result X E)) (new : List X) : Type 0 where
    pub given : MayRefuse made (slice_get old n)
    pub left : new ≡ drop (n + 1) old

  -- n elements were skipped from the back and the next one was made or its allocation failed, or all of at most n were skipped
  pub record MakesNthBack (n : ℕ) (old : List X) (made : Option (Result X E)) (new : List X) : Type 0 where
    pub given : MayRefuse made (slice_get (reverse old) n)
    pub left : new ≡ take (length old - (n + 1)) old

  -- `MakesNth` of 0: `next`
  abbrev pub MakesFirst : List X → Option (Result X E) → List X → Type 0
  MakesFirst = MakesNth 0

  -- `MakesNthBack` of 0: `next_back`
  abbrev pub MakesLast : List X → Option (Result X E) → List X → Type 0
  MakesLast = MakesNthBack 0
