-- The nodes that zeros close, which walks in postorder find.
use Rattle.std.specs.Prelude.{◌≡◌, ℕ, ◌+◌, ◌≤◌, Bool, false, List, length, map, take, drop}
use Rattle.vers_bits.specs.Bits.{positions}
use Rattle.vers_rank.specs.Queries.{superblock_count, select_reads}
use Rattle.vers_trees.specs.Siblings.{opening_of}

-- the nodes that n zeros close, from zero number k on
abbrev pub closed_by : List Bool → ℕ → ℕ → List ℕ
closed_by bits k n = map (opening_of bits) (take n (drop k (positions false bits)))

-- the list has n zeros from number k on, and the positions of a bit in a list are those of its zeros, by the reads of a select
pub record ArePositionsOfZeros (bits : List Bool) (bit : Bool) (listed : List Bool) (k n : ℕ) : Type 0 where
  pub inside : k + n ≤ length (positions false bits)
  pub same : positions bit listed ≡ positions false bits
  pub reads : select_reads (superblock_count (length listed)) ≡ select_reads (superblock_count (length bits))
