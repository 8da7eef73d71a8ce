-- The queries of a list of values for the least of ranges, and of plain numbers.
use Rattle.std.specs.Prelude.{ℕ, List, length, slice_get}
use Rattle.vers_rmq.specs.Layout.{binary_heap_size, fast_heap_size}
use Rattle.vers_rmq.specs.Minima.{first_least}
use Rattle.catalogue.specs.declared.answer.Answer.{Answer}
use Rattle.catalogue.specs.declared.query.Query.{Query}
use Rattle.catalogue.specs.declared.query.Query.TheVariants.{Len, Get, HeapSize, RangeMin}
use Rattle.catalogue.specs.declared.answer.Answer.TheVariants.{Found, Unknown}
use Rattle.catalogue.specs.Answers.{found_or_absent}

-- of values by blocks
abbrev pub fast_answer : List ℕ → Query → ℕ → ℕ → ℕ → Answer
fast_answer values Len a b c = Found (length values)
fast_answer values Get a b c = found_or_absent (slice_get values a)
fast_answer values HeapSize a b c = Found (fast_heap_size (length values))
fast_answer values RangeMin a b c = found_or_absent (first_least values a b)
fast_answer values _ a b c = Unknown

-- of values by a table
abbrev pub table_answer : List ℕ → Query → ℕ → ℕ → ℕ → Answer
table_answer values Len a b c = Found (length values)
table_answer values Get a b c = found_or_absent (slice_get values a)
table_answer values HeapSize a b c = Found (binary_heap_size (length values))
table_answer values RangeMin a b c = found_or_absent (first_least values a b)
table_answer values _ a b c = Unknown

-- of plain numbers
abbrev pub numbers_answer : List ℕ → Query → ℕ → ℕ → ℕ → Answer
numbers_answer numbers Len a b c = Found (length numbers)
numbers_answer numbers Get a b c = found_or_absent (slice_get numbers a)
numbers_answer numbers _ a b c = Unknown
