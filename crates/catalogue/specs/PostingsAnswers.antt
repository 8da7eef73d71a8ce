-- The queries of documents with costs.
use Rattle.std.specs.Prelude.{ℕ, length, min, slice_get}
use Rattle.vers_sorted.specs.Sorted.{is_element, below, least_not_below}
use Rattle.postings.specs.Posted.{Posted, cheapest, postings_size}
use Rattle.catalogue.specs.declared.answer.Answer.{Answer}
use Rattle.catalogue.specs.declared.query.Query.{Query}
use Rattle.catalogue.specs.declared.query.Query.TheVariants.{Len, Get, HeapSize, Rank, Has, Successor, Cheapest, Cost}
use Rattle.catalogue.specs.declared.answer.Answer.TheVariants.{Found, Unknown}
use Rattle.catalogue.specs.Answers.{found_or_absent, decided}

-- the answer of each query
abbrev pub posted_answer : Posted → Query → ℕ → ℕ → ℕ → Answer
posted_answer posted Len a b c = Found (length posted.documents)
posted_answer posted Get a b c = found_or_absent (slice_get posted.documents a)
posted_answer posted Cost a b c = found_or_absent (slice_get posted.costs a)
posted_answer posted HeapSize a b c = Found (min (postings_size posted) 18446744073709551615)
posted_answer posted Rank a b c = Found (below posted.documents a)
posted_answer posted Has a b c = decided (is_element posted.documents a)
posted_answer posted Successor a b c = found_or_absent (least_not_below posted.documents a)
posted_answer posted Cheapest a b c = found_or_absent (cheapest posted a b)
posted_answer posted _ a b c = Unknown
