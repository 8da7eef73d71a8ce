-- Queries that go through a tree together. Each has a counter of its own for its reads; the reads of all are within their sum.
use Rattle.std.specs.Prelude.{◌≡◌, ◌≢◌, ℕ, ◌+◌, ◌<◌, ◌≤◌, ◌==◌, ◌⊎◌, Bool, true, false, List, length, count_by, slice_index_or, if◌then◌else◌}
use Rattle.vers_bits.specs.Bits.{count}
use Rattle.vers_tally.specs.Reads.{Reads, AddsAtMost, IsWithin, no_reads, only_items, times}
use Rattle.vers_wavelet.specs.Symbols.{Symbols}
use Rattle.word_rank.specs.Ranks.{word_rank_reads}
use Rattle.wavelet_tree.specs.Queries.{IsSortedRange, fork_reads, query_reads, sorted_position, sum_reads}
use Rattle.wavelet_tree.specs.Trees.{depth, tree_of}
use Rattle.wavelet_tree.specs.inside.Nodes.{Walks, weight}
use Rattle.wavelet_tree.specs.declared.batch.RangeQuery.{RangeQuery}
use Rattle.wavelet_tree.specs.declared.node.Node.{Node}
use Rattle.wavelet_tree.specs.declared.node.TheConstants.{LEAVES}

-- a query before its first fork, which has read nothing
pub record IsAsked (items : List ℕ) (asked now : RangeQuery) (own : Reads) : Type 0 where
  pub same : now ≡ asked
  pub none : own ≡ no_reads
  pub order : asked.start ≤ asked.end
  pub within : asked.end ≤ length items

-- bound on the reads of a query at the root
abbrev pub first_reads : RangeQuery → Reads
first_reads query = if query.start == query.end then no_reads else only_items 2

-- a query is at the root, and its symbol occurs
pub record IsAtRoot (items : List ℕ) (root : ℕ) (asked now : RangeQuery) : Type 0 where
  pub link : now.link ≡ root
  pub start : now.start ≡ asked.start
  pub end : now.end ≡ asked.end
  pub symbol : now.symbol ≡ asked.symbol
  pub some : asked.start ≢ asked.end
  pub occurs : 0 < count_by (λ y. y == asked.symbol) items

-- a query is answered
pub record IsAnswered (symbols : Symbols) (asked now : RangeQuery) (own : Reads) : Type 0 where
  pub leaf : LEAVES ≤ now.link
  pub answer : IsSortedRange symbols.items asked now
  pub adds : IsWithin own (query_reads symbols asked)

-- a query came to a fork of a tree, as one walk with both ends of its range
pub record IsWalking (symbols : Symbols) (starts : List ℕ) (nodes : List Node) (bits : List Bool) (turn : ℕ) (asked now : RangeQuery) (own : Reads) : Type 0 where
  pub fork : now.link < LEAVES
  pub turns : now.link + turn < length nodes
  pub symbol : now.symbol ≡ asked.symbol
  pub some : asked.start ≢ asked.end
  pub walks : Walks starts nodes bits (weight (tree_of symbols) symbols.items) false fork_reads asked.symbol (depth (tree_of symbols) asked.symbol)
      (sorted_position symbols.items asked.start asked.symbol) (sorted_position symbols.items asked.end asked.symbol) (only_items 2) own now.link now.start now.end

-- and has the ranks of both
pub record IsRanked (symbols : Symbols) (starts : List ℕ) (nodes : List Node) (bits : List Bool) (turn : ℕ) (asked now : RangeQuery) (own : Reads) : Type 0 where
  pub before : Reads
  pub walking : IsWalking symbols starts nodes bits turn asked now before
  pub start_ones : now.start_ones ≡ count true bits now.start
  pub end_ones : now.end_ones ≡ count true bits now.end
  pub adds : AddsAtMost before own (times 2 word_rank_reads)

-- a query after a number of turns
abbrev pub HasTurned : Symbols → List ℕ → List Node → List Bool → ℕ → RangeQuery → RangeQuery → Reads → Type 0
HasTurned symbols starts nodes bits turn asked now own = IsAnswered symbols asked now own ⊎ IsWalking symbols starts nodes bits turn asked now own

-- and once its ranks are read
abbrev pub HasRanks : Symbols → List ℕ → List Node → List Bool → ℕ → RangeQuery → RangeQuery → Reads → Type 0
HasRanks symbols starts nodes bits turn asked now own = IsAnswered symbols asked now own ⊎ IsRanked symbols starts nodes bits turn asked now own

-- the first k queries of a list meet one relation, and the others another one, each with a counter of its own
pub record AreUpTo (Later Earlier : RangeQuery → RangeQuery → Reads → Type 0) (asked now : List RangeQuery) (k : ℕ) (old new : Reads) : Type 0 where
  pub own : List Reads
  pub long : length now ≡ length asked
  pub own_long : length own ≡ length asked
  pub first : (i : ℕ) (q : RangeQuery) (r : Reads) → i < k → i < length asked → Later (slice_index_or asked i q) (slice_index_or now i q) (slice_index_or own i r)
  pub others : (i : ℕ) (q : RangeQuery) (r : Reads) → k ≤ i → i < length asked → Earlier (slice_index_or asked i q) (slice_index_or now i q) (slice_index_or own i r)
  pub adds : AddsAtMost old new (sum_reads (λ r. r) own)

-- the same relation for all
abbrev pub AreAll : (RangeQuery → RangeQuery → Reads → Type 0) → List RangeQuery → List RangeQuery → Reads → Reads → Type 0
AreAll State asked now old new = AreUpTo State State asked now 0 old new
