-- The laws of what calls on a tree read, as statements. They turn the names of bounds into numbers.
use Rattle.std.specs.Prelude.{ℕ, ◌+◌, ◌*◌, ◌≤◌}
use Rattle.vers_tally.specs.Reads.{Reads, no_reads, AddsAtMost, IsWithin, digits}
use Rattle.vers_rank.specs.Queries.{superblock_count, get_reads, rank_reads, select_reads}
use Rattle.vers_trees.specs.Layout.{levels, search_reads, enclose_reads, two_searches_reads}
use Rattle.vers_trees.specs.WalkReads.{post_reads}

-- how many entries of the index and calls of it a call may add: as many as data words, and two for each binary digit of the number of superblocks
abbrev pub index_bound : ℕ → ℕ → ℕ
index_bound size n = 4 * size + 32 + 2 * digits (superblock_count n)

-- what any call on a tree of n bits in blocks of `size` adds at most: four blocks begun, eight nodes a level, and four times the bits of a block as data words, and 32
abbrev pub tree_reads : ℕ → ℕ → Reads
tree_reads size n = record no_reads {
  data_words = 4 * size + 32;
  block_entries = index_bound size n;
  superblock_entries = index_bound size n;
  rank_calls = index_bound size n;
  blocks = 4;
  nodes = 8 * levels size n;
}

-- each bound in the contract of a call or of an iterator's step is within `tree_reads`, except that of `is_balanced`
abbrev pub CallsAreWithinOneBound : Type 0
CallsAreWithinOneBound = (size n : ℕ) → IsWithin (search_reads size n) (tree_reads size n)
    × IsWithin (enclose_reads size n) (tree_reads size n)
    × IsWithin (two_searches_reads size n) (tree_reads size n)
    × IsWithin (post_reads size n) (tree_reads size n)
    × IsWithin get_reads (tree_reads size n)
    × IsWithin rank_reads (tree_reads size n)
    × IsWithin (select_reads (superblock_count n)) (tree_reads size n)

-- `tree_reads` allows at most four blocks begun, eight nodes a level and 4 * size + 32 data words
abbrev pub CallsReadFew : Type 0
CallsReadFew = (size n : ℕ) (old new : Reads) → AddsAtMost old new (tree_reads size n)
    → (new.blocks ≤ old.blocks + 4) × (new.nodes ≤ old.nodes + 8 * levels size n) × (new.data_words ≤ old.data_words + (4 * size + 32))

-- `search_reads` allows at most two blocks begun, four nodes a level and 2 * size + 4 data words
abbrev pub SearchesReadFew : Type 0
SearchesReadFew = (size n : ℕ) (old new : Reads) → AddsAtMost old new (search_reads size n)
    → (new.blocks ≤ old.blocks + 2) × (new.nodes ≤ old.nodes + 4 * levels size n) × (new.data_words ≤ old.data_words + (2 * size + 4))
