-- How far a walk to the successors of rising numbers has advanced.
use Rattle.std.specs.Prelude.{◌≡◌, ℕ, ◌+◌, ◌≤◌, List, Option}
use Rattle.vers_sorted.specs.declared.elias_fano.successors.Passed.{Passed}
use Rattle.vers_sorted.specs.Sorted.{below, least_not_below}
use Rattle.vers_sorted.specs.inside.Ahead.{HasRead}

-- at most n elements were passed, and the bits that were read follow those of their ones
pub record HasPassed (s : List ℕ) (n : ℕ) (passed : Passed) : Type 0 where
  pub few : passed.next ≤ n
  pub read : HasRead s passed.next passed.ahead

-- the successor of a number was found, and no element past it was passed
pub record IsFound (s : List ℕ) (from : ℕ) (found : Option ℕ) (passed : Passed) : Type 0 where
  pub next : found ≡ least_not_below s from
  pub past : HasPassed s (below s from + 1) passed
