-- What a step of a walk over nodes reads.
use Rattle.std.specs.Prelude.{ℕ}
use Rattle.vers_tally.specs.Reads.{Reads, plus}
use Rattle.vers_rank.specs.Queries.{superblock_count, select_reads}
use Rattle.vers_trees.specs.Layout.{search_reads}

-- bound on a step in postorder: a select of a zero, and a search for the one that it closes
abbrev pub post_reads : ℕ → ℕ → Reads
post_reads size n = plus (select_reads (superblock_count n)) (search_reads size n)
