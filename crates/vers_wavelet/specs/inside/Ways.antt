-- The path down to an element by size, one node a level, and the symbol found at its end.
use Rattle.std.specs.Prelude.{◌≡◌, ℕ, ◌+◌, ◌-◌, ◌<◌, ◌≤◌, Bool, List, length, slice_index, slice_index_or}
use Rattle.vers_wavelet.specs.declared.wavelet.way.Found.{Found}
use Rattle.vers_wavelet.specs.declared.wavelet.way.Node.{Node}
use Rattle.vers_wavelet.specs.declared.wavelet.way.Way.{Way}
use Rattle.vers_wavelet.specs.Symbols.{Symbols, by_size}
use Rattle.vers_wavelet.specs.inside.Levels.{values, AreLevels}
use Rattle.vers_wavelet.specs.inside.Walks.{HasRoom, ReducesKth}

-- a node at level k: its number is made of the k highest digits of the symbols at its positions, and of all n symbols
-- element `from` + j by size is this number plus element j by size of the remaining digits at these positions
pub record IsNode (ls : List (List Bool)) (n k : ℕ) (node : Node) : Type 0 where
  pub order : node.start ≤ node.end
  pub within : node.end ≤ n
  pub room : HasRoom 64 (length ls - k) node.number
  pub reduced : (j : ℕ) → ReducesKth ls 0 n (node.from + j) k node.start node.end j node.number

-- the path has 64 nodes, each at its level
pub record IsWay (ls : List (List Bool)) (n : ℕ) (way : Way) : Type 0 where
  pub long : length way.nodes ≡ 64
  pub each : (k : ℕ) (d : Node) → k < 64 → IsNode ls n k (slice_index_or way.nodes k d)

-- the path is one through the levels of a list of symbols
abbrev pub IsWayOf : Symbols → Way → Type 0
IsWayOf symbols way = (ls : List (List Bool)) (n : ℕ) → AreLevels ls n → length ls ≡ symbols.width → values ls n ≡ symbols.items → IsWay ls n way

-- the `count` elements by size from number `from` equal the symbol found
abbrev pub IsFound : List ℕ → Found → Type 0
IsFound items found = (j : ℕ) → j < found.count → slice_index (by_size items) (found.from + j) ≡ found.symbol
