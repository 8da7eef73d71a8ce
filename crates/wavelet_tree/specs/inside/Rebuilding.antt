-- What the construction of a tree from its bits takes and leaves.
use Rattle.std.specs.Prelude.{◌≡◌, ℕ, ◌+◌, ◌-◌, ◌<◌, ◌≤◌, Bool, List, length, take}
use Rattle.vers_bits.specs.Bits.{part}
use Rattle.wavelet_tree.specs.Trees.{Tree, balanced, tree_bits, forks}
use Rattle.wavelet_tree.specs.inside.Nodes.{Stands, link, entry, weight}
use Rattle.wavelet_tree.specs.inside.Growing.{AreForks, CountsWithin}
use Rattle.wavelet_tree.specs.declared.node.Node.{Node}

-- the bits of a tree for some elements are those from bit `start` on, and end before the last bit
pub record BitsAt (t : Tree) (xs : List ℕ) (bits : List Bool) (start : ℕ) : Type 0 where
  pub within : start + weight t xs < length bits
  pub are : part bits start (weight t xs) ≡ tree_bits t xs

-- those of the tree of some symbols
pub record HasBitsAt (starts : List ℕ) (low end : ℕ) (xs : List ℕ) (bits : List Bool) (start : ℕ) : Type 0 where
  pub steps : ℕ
  pub enough : end ≤ low + steps
  pub tree : BitsAt (balanced starts steps low end) xs bits start

-- nodes were appended that are those of a tree, with a link to it, and its bits are those from `start` on and before `next`
pub record RebuildsTree (t : Tree) (starts xs : List ℕ) (nodes more_nodes : List Node) (bits : List Bool) (start next to from : ℕ) : Type 0 where
  pub nodes_are : length more_nodes ≡ length nodes + forks t
  pub next_is : next ≡ start + weight t xs
  pub stands : Stands t starts more_nodes bits (length bits - 1) (length nodes) start xs
  pub link_is : to ≡ link t (length nodes)
  pub entry_is : from ≡ entry t starts start

-- nodes were appended, and are those of the tree of some symbols for some elements
pub record Rebuilds (starts : List ℕ) (low end : ℕ) (nodes more_nodes : List Node) (bits : List Bool) (start next to from : ℕ) : Type 0 where
  pub xs : List ℕ
  pub counts : CountsWithin starts low end xs
  pub within : next < length bits
  pub kept_nodes : take (length nodes) more_nodes ≡ nodes
  pub tree : (n : ℕ) → end ≤ low + n → RebuildsTree (balanced starts n low end) starts xs nodes more_nodes bits start next to from

-- nodes, and bits with a zero after them, are those of the tree of some elements
pub record AreForksOf (starts : List ℕ) (limit : ℕ) (bits : List Bool) (nodes : List Node) (ended : List Bool) (root : ℕ) : Type 0 where
  pub xs : List ℕ
  pub counts : CountsWithin starts 0 limit xs
  pub bits_are : tree_bits (balanced starts limit 0 limit) xs ≡ bits
  pub forks : AreForks (balanced starts limit 0 limit) starts xs nodes ended root
