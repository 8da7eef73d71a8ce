-- What the construction of a tree takes and leaves.
use Rattle.std.specs.Prelude.{◌≡◌, ℕ, ◌+◌, ◌^◌, ◌<◌, ◌≤◌, ◌-◌, ◌==◌, Bool, true, false, List, filter, length, take, slice_index, slice_index_or, count_by, All}
use Rattle.vers_bits.specs.Bits.{count}
use Rattle.wavelet_tree.specs.Trees.{Tree, lesser, balanced, forks}
use Rattle.wavelet_tree.specs.inside.Nodes.{Stands, link, entry, weight}
use Rattle.wavelet_tree.specs.declared.node.Node.{Node}

-- the starts count some elements, which are symbols from low on and before end
pub record CountsWithin (starts : List ℕ) (low end : ℕ) (xs : List ℕ) : Type 0 where
  pub order : low < end
  pub inside : end < length starts
  pub short : All (λ n. n < 2 ^ 63) starts
  pub elements : All (λ x. (low ≤ x) × (x < end)) xs
  pub counts : (c : ℕ) → low ≤ c → c ≤ end → slice_index starts c ≡ slice_index starts low + lesser xs c

-- nodes and bits were appended that are those of a tree, with a link to it
pub record GrowsTree (t : Tree) (starts xs : List ℕ) (nodes more_nodes : List Node) (bits more_bits : List Bool) (to from : ℕ) : Type 0 where
  pub nodes_are : length more_nodes ≡ length nodes + forks t
  pub bits_are : length more_bits ≡ length bits + weight t xs
  pub stands : Stands t starts more_nodes more_bits (length more_bits) (length nodes) (length bits) xs
  pub link_is : to ≡ link t (length nodes)
  pub entry_is : from ≡ entry t starts (length bits)

-- nodes and bits were appended, and are those of the tree of some symbols
pub record Grows (starts : List ℕ) (low end : ℕ) (xs : List ℕ) (nodes more_nodes : List Node) (bits more_bits : List Bool) (ones to from : ℕ) : Type 0 where
  pub kept_nodes : take (length nodes) more_nodes ≡ nodes
  pub kept_bits : take (length bits) more_bits ≡ bits
  pub ones_are : ones ≡ count true more_bits (length more_bits)
  pub tree : (n : ℕ) → end ≤ low + n → GrowsTree (balanced starts n low end) starts xs nodes more_nodes bits more_bits to from

-- nodes and bits, with a zero after these, are those of a tree of all elements
pub record AreForks (t : Tree) (starts xs : List ℕ) (nodes : List Node) (bits : List Bool) (root : ℕ) : Type 0 where
  pub nodes_are : length nodes ≡ forks t
  pub bits_are : length bits ≡ weight t xs + 1
  pub ended : slice_index_or bits (weight t xs) true ≡ false
  pub fits : length bits < 2 ^ 64
  pub stands : Stands t starts nodes bits (weight t xs) 0 0 xs
  pub root_is : root ≡ link t 0

-- for the first symbols the starts are how many elements are below each, and for the others how often each occurs
pub record StartsUpTo (xs starts : List ℕ) (number : ℕ) : Type 0 where
  pub done : (c : ℕ) → c < number → c < length starts → slice_index starts c ≡ lesser xs c
  pub left : (c : ℕ) → number ≤ c → c < length starts → slice_index starts c ≡ count_by (λ s. s == c) xs

-- the first p elements of xs are spread: those that pass the first test are first in ys, the others first in zs
pub record Spread {X : Type 0} (low high : X → Bool) (xs ys zs : List X) (p many : ℕ) : Type 0 where
  pub lows : take many ys ≡ filter low (take p xs)
  pub highs : take (p - many) zs ≡ filter high (take p xs)
  pub rest : (i : ℕ) (d : X) → p ≤ i → slice_index_or ys i d ≡ slice_index_or xs i d
  pub behind : many ≤ p
  pub within : p ≤ length xs
  pub long : length ys ≡ length xs
  pub room : length xs ≤ length zs
