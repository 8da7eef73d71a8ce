-- What reading all symbols of a tree takes and leaves, fork by fork.
use Rattle.std.specs.Prelude.{◌≡◌, ℕ, ◌+◌, ◌-◌, ◌^◌, ◌<◌, Bool, true, false, List, length, slice_index_or, All, if◌then◌else◌}
use Rattle.vers_bits.specs.Bits.{count}
use Rattle.wavelet_tree.specs.Trees.{Tree}
use Rattle.wavelet_tree.specs.inside.Nodes.{Stands, link, weight}
use Rattle.wavelet_tree.specs.declared.node.Node.{Node}

-- how many of the first bits of a fork are ones, whose bits begin at bit `start`
abbrev pub own_ones : List Bool → ℕ → ℕ → ℕ
own_ones bits start position = count true bits (start + position) - count true bits start

-- the source of an element of a fork: the next one on the left or the next one on the right
abbrev pub next_source : Bool → ℕ → ℕ → ℕ
next_source is_one low high = if is_one then high else low

-- the first elements of a fork are merged from those on the left and those on the right: each from the side of its bit
pub record Merges {X : Type 0} (bits : List Bool) (start low_len : ℕ) (parts merged : List X) (position : ℕ) : Type 0 where
  pub are : (k : ℕ) (d : X) → k < position → slice_index_or merged k d ≡ slice_index_or parts (next_source (slice_index_or bits (start + k) false) (k - own_ones bits start k) (low_len + own_ones bits start k)) d

-- nodes and bits are those of a tree for some elements, with a link to it, and its bits begin at bit `start`
pub record IsStored (t : Tree) (xs : List ℕ) (nodes : List Node) (bits : List Bool) (to start : ℕ) : Type 0 where
  pub starts : List ℕ
  pub used : ℕ
  pub first : ℕ
  pub stands : Stands t starts nodes bits used first start xs
  pub link_is : to ≡ link t first
  pub inside : used < length bits
  pub fits : length bits < 2 ^ 64

-- they are those of a tree for as many elements, each below a limit
pub record StoresMany (nodes : List Node) (bits : List Bool) (to start many limit : ℕ) : Type 0 where
  pub t : Tree
  pub xs : List ℕ
  pub stored : IsStored t xs nodes bits to start
  pub long : length xs ≡ many
  pub small : All (λ x. x < limit) xs

-- the elements of a tree are read, and its bits end before bit `next`
pub record AreRead (nodes : List Node) (bits : List Bool) (to start next : ℕ) (read : List ℕ) : Type 0 where
  pub are : (t : Tree) (xs : List ℕ) → IsStored t xs nodes bits to start → length xs ≡ length read → read ≡ xs
  pub next_is : (t : Tree) (xs : List ℕ) → IsStored t xs nodes bits to start → length xs ≡ length read → next ≡ start + weight t xs
