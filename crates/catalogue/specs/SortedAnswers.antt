-- The queries of an ascending list.
use Rattle.std.specs.Prelude.{ℕ, ◌==◌, List, length, slice_get}
use Rattle.vers_sorted.specs.Layout.{heap_size_of}
use Rattle.vers_sorted.specs.Sorted.{is_element, below, greatest_not_above, least_not_below, delta}
use Rattle.catalogue.specs.declared.answer.Answer.{Answer}
use Rattle.catalogue.specs.declared.query.Query.{Query}
use Rattle.catalogue.specs.declared.query.Query.TheVariants.{Len, Get, HeapSize, Rank, Has, Predecessor, Successor, Delta}
use Rattle.catalogue.specs.declared.answer.Answer.TheVariants.{Found, Unknown}
use Rattle.catalogue.specs.Answers.{found_or_absent, decided}

-- the answer of each query
abbrev pub sorted_answer : List ℕ → Query → ℕ → ℕ → ℕ → Answer
sorted_answer elements Len a b c = Found (length elements)
sorted_answer elements Get a b c = found_or_absent (slice_get elements a)
sorted_answer elements HeapSize a b c = Found (heap_size_of elements)
sorted_answer elements Rank a b c = Found (below elements a)
sorted_answer elements Has a b c = decided (is_element elements a)
sorted_answer elements Predecessor a b c = found_or_absent (greatest_not_above elements a)
sorted_answer elements Successor a b c = found_or_absent (least_not_below elements a)
sorted_answer elements Delta a b c = found_or_absent (delta elements a)
sorted_answer elements _ a b c = Unknown
