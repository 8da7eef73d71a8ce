-- Lists of documents, one for each term.
use Rattle.std.specs.Prelude.{ℕ, Bool, List, [], filter, length, slice_index_or}
use Rattle.std.specs.List.{range_with_len}
use Rattle.vers_sorted.specs.Sorted.{is_element, below}
use Rattle.sets.specs.Sources.{seek_reads}
use Rattle.sets.specs.Steps.{Searched}

-- the list of each term, the number that all documents are below, and all lists as one: document d of term t is the number `t * universe + d`
pub record Lists : Type 0 where
  pub lists : List (List ℕ)
  pub universe : ℕ
  pub numbers : List ℕ

-- the list of term t, which is empty if there is no such term
abbrev pub list_of : Lists → ℕ → List ℕ
list_of index t = slice_index_or index.lists t []

-- the documents for which `has` is true, ascending: all documents are below `universe`
abbrev pub documents_with : Lists → (ℕ → Bool) → List ℕ
documents_with index has = filter has (range_with_len 0 index.universe)

-- a term of an index
pub record Term : Type 0 where
  pub index : Lists
  pub term : ℕ

-- term t of an index
abbrev pub term_of : Lists → ℕ → Term
term_of index t = record { index = index; term = t }

-- the documents of a term as a searched set: a step is one among the numbers of all terms
abbrev pub searched_term : Term → Searched
searched_term source = record {
  has = is_element (list_of source.index source.term);
  step_reads = seek_reads source.index.numbers;
  passed = below (list_of source.index source.term);
  most_steps = length (list_of source.index source.term);
}
