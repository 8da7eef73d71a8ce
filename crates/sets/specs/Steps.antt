-- Sets that are searched step by step.
use Rattle.std.specs.Prelude.{◌≡◌, ℕ, ◌+◌, ◌-◌, ◌<◌, ◌≤◌, Bool, true, false, Option, Some, None}
use Rattle.vers_tally.specs.Reads.{Reads, times}
use Rattle.sets.specs.declared.step.Step.{Step}
use Rattle.sets.specs.declared.step.Step.TheVariants.{Ended, Past, Found}

-- what contracts use of a source: whether a number is in its set, the bound on the reads of a step, and how much of `most_steps` the steps to below a number have used up
pub record Searched : Type 0 where
  pub has : ℕ → Bool
  pub step_reads : Reads
  pub passed : ℕ → ℕ
  pub most_steps : ℕ

-- no number from `from` to before `to` is in the set
abbrev pub HasNone : (ℕ → Bool) → ℕ → ℕ → Type 0
HasNone has from to = (x : ℕ) → from ≤ x → x < to → has x ≡ false

-- no number from `from` on is in the set
abbrev pub HasNoMore : (ℕ → Bool) → ℕ → Type 0
HasNoMore has from = (x : ℕ) → from ≤ x → has x ≡ false

-- x is the first number of the set from `at` on; it has 64 bits, and is the last number if it is the greatest of these
pub record IsNext (has : ℕ → Bool) (at x : ℕ) : Type 0 where
  pub from : at ≤ x
  pub fits : x ≤ 18446744073709551615
  pub none : HasNone has at x
  pub there : has x ≡ true
  pub most : x ≡ 18446744073709551615 → HasNoMore has (x + 1)

-- x is a number of 64 bits above `at`, and no number from `at` to before x is in the set
pub record IsPast (has : ℕ → Bool) (at x : ℕ) : Type 0 where
  pub from : at < x
  pub fits : x ≤ 18446744073709551615
  pub none : HasNone has at x

-- a step from `at` found the first number of the set, or skipped some that are not in it, or there is no number left
abbrev pub IsStep : (ℕ → Bool) → ℕ → Step → Type 0
IsStep has at Ended = HasNoMore has at
IsStep has at (Past x) = IsPast has at x
IsStep has at (Found x) = IsNext has at x

-- a step from `at` uses up at least one of the most steps
abbrev pub PassesOne : (ℕ → ℕ) → ℕ → Step → Type 0
PassesOne passed at Ended = Unit {0}
PassesOne passed at (Past x) = passed at + 1 ≤ passed x
PassesOne passed at (Found x) = passed at + 1 ≤ passed (x + 1)

-- what is used up never falls, and is at most `most`
pub record Rises (passed : ℕ → ℕ) (most : ℕ) : Type 0 where
  pub rises : (v w : ℕ) → v ≤ w → passed v ≤ passed w
  pub bounded : (v : ℕ) → passed v ≤ most

-- a search continues at the next number of 64 bits, if there is one
abbrev pub IsAfter : ℕ → Option ℕ → Type 0
IsAfter x (Some next) = next ≡ x + 1
IsAfter x None = x ≡ 18446744073709551615

-- how many steps a walk has taken at most that continues from a number, or has ended
abbrev pub steps_taken : Searched → Option ℕ → ℕ
steps_taken set (Some at) = set.passed at
steps_taken set None = set.most_steps + 1

-- bound on the reads of a walk from one number to a later one, or to the end
abbrev pub walked_reads : Searched → Option ℕ → Option ℕ → Reads
walked_reads set from to = times (steps_taken set to - steps_taken set from) set.step_reads

-- a walk took the next number of the set and continues after it, or the set had no number left
abbrev pub IsWalked : (ℕ → Bool) → Option ℕ → Option ℕ → Option ℕ → Type 0
IsWalked has None taken next = (taken ≡ None) × (next ≡ None)
IsWalked has (Some at) None next = HasNoMore has at × (next ≡ None)
IsWalked has (Some at) (Some x) next = IsNext has at x × IsAfter x next
