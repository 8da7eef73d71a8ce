-- Sources that combine others.
use Rattle.std.specs.Prelude.{◌≡◌, ℕ, ◌+◌, ◌==◌, Bool, true, min, nat_lt, if◌then◌else◌}
use Rattle.sets.specs.declared.step.Step.{Step}
use Rattle.sets.specs.declared.step.Step.TheVariants.{Ended, Past, Found}
use Rattle.sets.specs.Steps.{HasNoMore, IsPast}

-- the earlier of two steps from one number
abbrev pub earlier_of : Step → Step → Step
earlier_of Ended other = other
earlier_of (Past x) Ended = Past x
earlier_of (Past x) (Past y) = Past (min x y)
earlier_of (Past x) (Found y) = if nat_lt y x then Found y else Past x
earlier_of (Found x) Ended = Found x
earlier_of (Found x) (Past y) = if nat_lt x y then Found x else Past y
earlier_of (Found x) (Found y) = Found (min x y)

-- a step past one number of 64 bits
abbrev pub past_one : ℕ → Step
past_one x = if x == 18446744073709551615 then Ended else Past (x + 1)

-- `at` is in the set, or the next number of the set is not before a later one, or there is no number left
abbrev pub IsEach : (ℕ → Bool) → ℕ → Step → Type 0
IsEach has at Ended = HasNoMore has at
IsEach has at (Past x) = IsPast has at x
IsEach has at (Found x) = (x ≡ at) × (has x ≡ true)
