-- The sets and bounds of sources.
use Rattle.std.specs.Prelude.{ℕ, List, [], ◌∷◌, length}
use Rattle.std.specs.List.{list_any, sum_by}
use Rattle.vers_sorted.specs.Layout.{element_reads, search_reads}
use Rattle.vers_sorted.specs.Sorted.{is_element, below}
use Rattle.vers_tally.specs.Reads.{Reads, no_reads, plus, times}
use Rattle.sets.specs.Steps.{Searched}

-- bound on a step of a search through an ascending list: one search, and 10 elements
abbrev pub seek_reads : List ℕ → Reads
seek_reads elements = plus (search_reads elements) (times 10 (element_reads elements))

-- an ascending list as a searched set
abbrev pub searched_list : List ℕ → Searched
searched_list elements = record {
  has = is_element elements;
  step_reads = seek_reads elements;
  passed = below elements;
  most_steps = length elements;
}

-- bound on one step in each of several lists
abbrev pub seek_reads_of : List (List ℕ) → Reads
seek_reads_of [] = no_reads
seek_reads_of (elements ∷ lists) = plus (seek_reads elements) (seek_reads_of lists)

-- bound on one step in each of several sets
abbrev pub step_reads_of : List Searched → Reads
step_reads_of [] = no_reads
step_reads_of (set ∷ sets) = plus set.step_reads (step_reads_of sets)

-- the numbers that are in at least one of several sets, searched in all of them at each step
abbrev pub any_of : List Searched → Searched
any_of sets = record {
  has = λ x. list_any (λ set. set.has x) sets;
  step_reads = step_reads_of sets;
  passed = λ v. sum_by (λ set. set.passed v) sets;
  most_steps = sum_by (λ set. set.most_steps) sets;
}
