-- Documents in ascending order, each with a cost, and their queries.
use Rattle.std.specs.Prelude.{◌≡◌, ℕ, ◌+◌, ◌*◌, ◌&&◌, ◌≤◌, All, Bool, List, length, slice_index, filter, nat_le, Option, option_map, if◌then◌else◌}
use Rattle.std.specs.List.{range_with_len}
use Rattle.std.specs.List.Sorted.{IsStrictlyIncreasing}
use Rattle.vers_rmq.specs.Layout.{fast_heap_size}
use Rattle.vers_rmq.specs.Minima.{first_least_of}
use Rattle.vers_sorted.specs.Sorted.{is_element}
use Rattle.vers_sorted.specs.Layout.{heap_size_of, select_calls, element_reads, search_reads}
use Rattle.vers_tally.specs.Reads.{Reads, digits, plus, times}

-- documents, and the cost of each at the same position
pub record Posted : Type 0 where
  pub documents : List ℕ
  pub costs : List ℕ

-- the documents ascend strictly and fit in 64 bits, and there is one cost for each
pub record ArePaired (posted : Posted) : Type 0 where
  pub ascending : IsStrictlyIncreasing posted.documents
  pub paired : length posted.costs ≡ length posted.documents
  pub numbers : All (λ d. d ≤ 18446744073709551615) posted.documents

-- the bytes of the documents, and of the costs with their index
abbrev pub postings_size : Posted → ℕ
postings_size posted = heap_size_of posted.documents + fast_heap_size (length posted.costs)

-- the positions of the documents from one number to another, both included
unfoldable pub positions_between : List ℕ → ℕ → ℕ → List ℕ
positions_between documents from to =
    filter (λ i. nat_le from (slice_index documents i) && nat_le (slice_index documents i) to) (range_with_len 0 (length documents))

-- the first document of least cost from document `from` to document `to`, both included; `None` if there is none
unfoldable pub cheapest : Posted → ℕ → ℕ → Option ℕ
cheapest posted from to =
    option_map (slice_index posted.documents) (first_least_of posted.costs (positions_between posted.documents from to))

-- the documents that are also in the other list, ascending
unfoldable pub common : List ℕ → List ℕ → List ℕ
common documents others = filter (is_element others) documents

-- bound on the reads of `cheapest`: two searches, one document and 18 costs
abbrev pub cheapest_reads : List ℕ → Reads
cheapest_reads documents = record (select_calls (2 * digits (length documents) + 18) documents) { items = 18 }

-- what looking for each document of one list in another reads at most
abbrev pub lookups : List ℕ → List ℕ → Reads
lookups documents others = times (length documents) (plus (element_reads documents) (search_reads others))

-- bound on the reads of `intersect`, which searches the longer list for each document of the shorter
abbrev pub intersect_reads : List ℕ → List ℕ → Reads
intersect_reads documents others = if nat_le (length documents) (length others) then lookups documents others else lookups others documents
