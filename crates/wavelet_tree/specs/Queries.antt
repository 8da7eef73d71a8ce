-- What the queries of a wavelet tree return and read, and what the tree takes.
use Rattle.std.specs.Prelude.{◌≡◌, ℕ, ◌+◌, ◌*◌, ◌^◌, ◌<◌, ◌==◌, List, [], ◌∷◌, take, count_by, if◌then◌else◌}
use Rattle.std.specs.List.{sum_by}
use Rattle.vers_tally.specs.Reads.{Reads, no_reads, only_items, only_nodes, plus, times}
use Rattle.vers_wavelet.specs.Symbols.{Symbols}
use Rattle.word_rank.specs.Ranks.{word_rank_reads, word_rank_size}
use Rattle.wavelet_tree.specs.Trees.{lesser, tree_of, depth, forks}
use Rattle.wavelet_tree.specs.declared.batch.RangeQuery.{RangeQuery}

-- how many of the first elements are a symbol
abbrev pub occurring : List ℕ → ℕ → ℕ → ℕ
occurring items position s = count_by (λ y. y == s) (take position items)

-- the sorted position of the first occurrence of a symbol from a position on: its index when all elements are sorted, and equal ones keep their order
abbrev pub sorted_position : List ℕ → ℕ → ℕ → ℕ
sorted_position items position s = lesser items s + occurring items position s

-- bound on one fork of a walk with one position: its node, and a rank
abbrev pub access_fork_reads : Reads
access_fork_reads = plus (only_nodes 1) word_rank_reads

-- bound on an access: a node and a rank for each fork that leads to the symbol
abbrev pub access_reads : Symbols → ℕ → Reads
access_reads symbols s = times (depth (tree_of symbols) s) access_fork_reads

-- bound on a rank of a symbol: two numbers of lesser elements, and a node and a rank for each fork that leads to it
abbrev pub symbol_rank_reads : Symbols → ℕ → Reads
symbol_rank_reads symbols s = plus (only_items 2) (access_reads symbols s)

-- bound on one fork of a walk with both ends of a range: its node, and two ranks
abbrev pub fork_reads : Reads
fork_reads = plus (only_nodes 1) (times 2 word_rank_reads)

-- bound on a walk with both ends of a range to a symbol: the forks that lead to it, and two numbers of lesser elements
abbrev pub walk_reads : Symbols → ℕ → Reads
walk_reads symbols s = plus (only_items 2) (times (depth (tree_of symbols) s) fork_reads)

-- an answer to a query: the sorted positions of the symbol's occurrences in the range, which is empty if there are none
pub record IsSortedRange (items : List ℕ) (asked answer : RangeQuery) : Type 0 where
  pub symbol : answer.symbol ≡ asked.symbol
  pub start : occurring items asked.start asked.symbol < occurring items asked.end asked.symbol → answer.start ≡ sorted_position items asked.start asked.symbol
  pub end : occurring items asked.start asked.symbol < occurring items asked.end asked.symbol → answer.end ≡ sorted_position items asked.end asked.symbol
  pub none : occurring items asked.start asked.symbol ≡ occurring items asked.end asked.symbol → answer.start ≡ answer.end

-- bound on one query of many: nothing for an empty range, and a walk otherwise
abbrev pub query_reads : Symbols → RangeQuery → Reads
query_reads symbols query = if query.start == query.end then no_reads else walk_reads symbols query.symbol

-- the sum of a bound for each element of a list
unfoldable pub sum_reads : {X : Type 0} → (X → Reads) → List X → Reads
sum_reads bound [] = no_reads
sum_reads bound (x ∷ xs) = plus (bound x) (sum_reads bound xs)

-- the bits of the forks: one for each element and each fork above it, and one at the end
abbrev pub bit_count : Symbols → ℕ
bit_count symbols = sum_by (depth (tree_of symbols)) symbols.items + 1

-- the bytes of a tree: its bits with their counts, 32 for each fork, and 8 for each symbol that there may be and one more
abbrev pub tree_size : Symbols → ℕ
tree_size symbols = word_rank_size (bit_count symbols) + 32 * forks (tree_of symbols) + 8 * (2 ^ symbols.width + 1)
