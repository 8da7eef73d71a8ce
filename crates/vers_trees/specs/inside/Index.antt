-- What a list with its tree of excesses is made of.
use Rattle.std.specs.Prelude.{◌≡◌, ℕ, ◌+◌, ◌-◌, ◌*◌, ◌/◌, ◌^◌, ◌<◌, ◌≤◌, ◌⊎◌, max, min, slice_index_or, Bool, true, List, length, ℤ}
use Rattle.vers_tally.specs.Reads.{Reads, no_reads, digits}
use Rattle.vers_trees.specs.Excess.{excess}
use Rattle.vers_trees.specs.declared.trees.bp.min_max.Node.{Node}
use Rattle.vers_trees.specs.inside.MinMax.{IsMinMax, IsPart, Sought, start_of, empty_node}
use Rattle.vers_trees.specs.inside.Scans.{edge, HasNoRise}
use Rattle.vers_trees.specs.Layout.{clog, node_count, levels}

-- the tree over the blocks of a list that has some bits
pub record IsTreeOf (l : List Bool) (size first : ℕ) (nodes : List Node) : Type 0 where
  pub tree : IsMinMax l size first nodes
  pub few : digits first ≤ levels size (length l)

-- a list that is not too long, to be divided into blocks of a size that is allowed
pub record CanBeIndexed (l : List Bool) (size : ℕ) : Type 0 where
  pub short : length l < 2 ^ 63
  pub some : 0 < size
  pub bounded : size ≤ 4294967296

-- the tree of a list, which may be empty
pub record IsIndexed (l : List Bool) (size first : ℕ) (nodes : List Node) : Type 0 where
  pub short : length l < 2 ^ 63
  pub some : 0 < size
  pub bounded : size ≤ 4294967296
  pub counted : length nodes ≡ node_count size (length l)
  pub over : 0 < length l → IsTreeOf l size first nodes

-- in a list with its tree, a search has no position with its sum up to the end of the block that it begins in; there it has risen by `rise`
pub record IsPassed (back : Bool) (s : Sought) (first : ℕ) (nodes : List Node) (block : ℕ) (rise : ℤ) : Type 0 where
  pub indexed : IsIndexed s.bits s.size first nodes
  pub some : 0 < s.from
  pub inside : s.from ≤ length s.bits
  pub last : back ≡ true → s.from < length s.bits
  pub begins : block ≡ (s.from - 1) / s.size
  pub passed : HasNoRise back s.bits s.from (start_of s.bits s.size (edge back (block + 1) block)) s.rise rise

-- what a search adds at most once the block that it begins in is passed: four nodes a level, a block begun, and each of its bits once
abbrev pub past_reads : ℕ → ℕ → Reads
past_reads size n = record no_reads { data_words = size; rank_calls = size; blocks = 1; nodes = 4 * levels size n }

-- w is the least power of two, from 2, that is not below the number of leaves
pub record IsWidth (leaves w : ℕ) : Type 0 where
  pub power : w ≡ 2 ^ max 1 (clog leaves)
  pub enough : leaves ≤ w
  pub some : 2 ≤ w
  pub bounded : w ≤ 2 ^ 63

-- a width that is grown, so far
pub record IsGrowing (leaves w : ℕ) : Type 0 where
  pub exponent : ℕ
  pub power : 2 * 2 ^ exponent ≡ w
  pub short : (exponent ≡ 0) ⊎ (2 ^ exponent < leaves)

-- after `first` nodes, those of the first n blocks
pub record AreFirstBlocks (l : List Bool) (size first n : ℕ) (nodes : List Node) : Type 0 where
  pub counted : length nodes ≡ first + n
  pub part : (k : ℕ) → k < n → IsPart l (k * size) (min (k * size + size) (length l)) (slice_index_or nodes (first + k) empty_node)

-- a list that is built has this excess in all, and is not too long
pub record IsBuilding (size : ℕ) (bits : List Bool) (total : ℤ) : Type 0 where
  pub short : length bits < 2 ^ 63
  pub some : 0 < size
  pub bounded : size ≤ 4294967296
  pub sum : excess bits (length bits) ≡ total
