-- Queries that batches answer with one function for several of them.
use Rattle.std.specs.Prelude.{ℕ, Bool, false, true, List, Option, slice_get}
use Rattle.catalogue.specs.declared.query.Query.{Query}
use Rattle.catalogue.specs.declared.query.Query.TheVariants.{Get, Predecessor, Successor, Select0, Select1}
use Rattle.vers_sorted.specs.Sorted.{greatest_not_above, least_not_below}
use Rattle.vers_c.specs.declared.batch.elements.Element.{Element}
use Rattle.vers_c.specs.declared.batch.elements.Element.TheVariants.{At, Before, After}

-- the query for the position of a zero or of a one by its number
abbrev pub select_query : Bool → Query
select_query false = Select0
select_query true = Select1

-- the query for an element
abbrev pub element_query : Element → Query
element_query At = Get
element_query Before = Predecessor
element_query After = Successor

-- the element that a number names
abbrev pub element_found : Element → List ℕ → ℕ → Option ℕ
element_found At elements number = slice_get elements number
element_found Before elements number = greatest_not_above elements number
element_found After elements number = least_not_below elements number
