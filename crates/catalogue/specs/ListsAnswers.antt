-- The queries of an inverted index.
use Rattle.std.specs.Prelude.{ℕ, length, slice_get}
use Rattle.vers_sorted.specs.Layout.{heap_size_of}
use Rattle.vers_sorted.specs.Sorted.{is_element, below, least_not_below}
use Rattle.inverted.specs.Lists.{Lists, list_of}
use Rattle.catalogue.specs.declared.answer.Answer.{Answer}
use Rattle.catalogue.specs.declared.query.Query.{Query}
use Rattle.catalogue.specs.declared.query.Query.TheVariants.{Len, Get as Item, HeapSize, Terms, Universe, Term}
use Rattle.catalogue.specs.declared.query.TermQuery.{TermQuery}
use Rattle.catalogue.specs.declared.query.TermQuery.TheVariants.{Count, Get, Rank, Has, Successor}
use Rattle.catalogue.specs.declared.answer.Answer.TheVariants.{Found, Unknown}
use Rattle.catalogue.specs.Answers.{found_or_absent, decided}

-- of the documents of a term, which has none if there is no such term
abbrev pub answer_of_term : Lists → TermQuery → ℕ → ℕ → Answer
answer_of_term index Count t b = Found (length (list_of index t))
answer_of_term index Get t i = found_or_absent (slice_get (list_of index t) i)
answer_of_term index Rank t d = Found (below (list_of index t) d)
answer_of_term index Has t d = decided (is_element (list_of index t) d)
answer_of_term index Successor t d = found_or_absent (least_not_below (list_of index t) d)

-- the answer of each query
abbrev pub lists_answer : Lists → Query → ℕ → ℕ → ℕ → Answer
lists_answer index Len a b c = Found (length index.numbers)
lists_answer index Item a b c = found_or_absent (slice_get index.numbers a)
lists_answer index HeapSize a b c = Found (heap_size_of index.numbers)
lists_answer index Terms a b c = Found (length index.lists)
lists_answer index Universe a b c = Found index.universe
lists_answer index (Term query) a b c = answer_of_term index query a b
lists_answer index _ a b c = Unknown
