-- Steps among the numbers of all terms as steps among the documents of one.
use Rattle.std.specs.Prelude.{◌≡◌, ℕ, ◌+◌, ◌-◌, List, nat_lt, if◌then◌else◌}
use Rattle.vers_sorted.specs.Sorted.{is_element, below}
use Rattle.sets.specs.declared.step.Step.{Step}
use Rattle.sets.specs.declared.step.Step.TheVariants.{Ended, Past, Found}
use Rattle.sets.specs.Sources.{seek_reads}

-- the step to a number from `start` on as one to its document, which ends the search past the term
abbrev pub step_in : ℕ → ℕ → Step → Step
step_in start universe Ended = Ended
step_in start universe (Past number) = if nat_lt number (start + universe) then Past (number - start) else Ended
step_in start universe (Found number) = if nat_lt number (start + universe) then Found (number - start) else Ended

-- a cursor has the set of the numbers, which is all that a step preserves
pub record IsCursorOf (cursor numbers : List ℕ) : Type 0 where
  pub has : (x : ℕ) → is_element cursor x ≡ is_element numbers x
  pub passed : (v : ℕ) → below cursor v ≡ below numbers v
  pub reads : seek_reads cursor ≡ seek_reads numbers
