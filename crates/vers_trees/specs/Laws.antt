-- The laws of parentheses, as statements.
use Rattle.std.specs.Prelude.{◌≡◌, ◌≢◌, ℕ, ◌+◌, ◌*◌, ◌<◌, ◌↔◌, Bool, true, false, List, length, slice_get, Contains, ℤ, negsuc, ◌+ℤ◌, Some}
use Rattle.vers_trees.specs.Excess.{excess, first_rise_after, last_rise_before, enclosing}
use Rattle.vers_trees.specs.Forest.{Forest, text, pairs, IsBalanced, forest_of}
use Rattle.vers_trees.specs.Layout.{block_count, node_count}
use Rattle.vers_trees.specs.Nodes.{parent}

-- j is the first position after i past which the excess is r more than past i
pub record IsFirstRiseAfter (bits : List Bool) (i : ℕ) (r : ℤ) (j : ℕ) : Type 0 where
  pub after : i < j
  pub inside : j < length bits
  pub sum : excess bits (j + 1) ≡ excess bits (i + 1) +ℤ r
  pub first : (k : ℕ) → i < k → k < j → excess bits (k + 1) ≢ excess bits (i + 1) +ℤ r

-- j is the last position before i before which the excess is r more than before i
pub record IsLastRiseBefore (bits : List Bool) (i : ℕ) (r : ℤ) (j : ℕ) : Type 0 where
  pub before : j < i
  pub inside : i < length bits
  pub sum : excess bits j ≡ excess bits i +ℤ r
  pub last : (k : ℕ) → j < k → k < i → excess bits k ≢ excess bits i +ℤ r

-- a forward search finds the first such position
abbrev pub ForwardFindsFirst : Type 0
ForwardFindsFirst = (bits : List Bool) (i : ℕ) (r : ℤ) (j : ℕ) → (first_rise_after bits i r ≡ Some j) ↔ IsFirstRiseAfter bits i r j

-- a backward search finds the last such position
abbrev pub BackwardFindsLast : Type 0
BackwardFindsLast = (bits : List Bool) (i : ℕ) (r : ℤ) (j : ℕ) → (last_rise_before bits i r ≡ Some j) ↔ IsLastRiseBefore bits i r j

-- a list is the text of at most one forest
abbrev pub OneForest : Type 0
OneForest = (F G : Forest) → text F ≡ text G → F ≡ G

-- a one is closed at the first position past which the excess is one less
abbrev pub CloseFindsPair : Type 0
CloseFindsPair = (F : Forest) (v c : ℕ) → slice_get (text F) v ≡ Some true
    → (first_rise_after (text F) v (negsuc 0) ≡ Some c) ↔ Contains (pairs F) (v, c)

-- a zero closes the one at the last position before which the excess is one less
abbrev pub OpenFindsPair : Type 0
OpenFindsPair = (F : Forest) (v c : ℕ) → slice_get (text F) c ≡ Some false
    → (last_rise_before (text F) c (negsuc 0) ≡ Some v) ↔ Contains (pairs F) (v, c)

-- the nearest pair around either position of a node's pair is the pair of its parent; a root has none
abbrev pub EncloseFindsParent : Type 0
EncloseFindsParent = (F : Forest) (v c : ℕ) → Contains (pairs F) (v, c)
    → (enclosing (text F) v ≡ parent F v) × (enclosing (text F) c ≡ parent F v)

-- the text of the forest of a balanced list is the list
abbrev pub ForestWritesItsList : Type 0
ForestWritesItsList = (bits : List Bool) → IsBalanced bits → text (forest_of bits) ≡ bits

-- the min-max tree has fewer than three nodes for each block
abbrev pub NodesAreFew : Type 0
NodesAreFew = (size n : ℕ) → 0 < size → 0 < n → node_count size n < 3 * block_count size n

-- each one is closed by a zero, and `open` of that zero is this one
abbrev pub OpenUndoesClose : Type 0
OpenUndoesClose = (F : Forest) (v : ℕ) → slice_get (text F) v ≡ Some true
    → (c : ℕ) × (first_rise_after (text F) v (negsuc 0) ≡ Some c) × (last_rise_before (text F) c (negsuc 0) ≡ Some v)

-- each zero closes a one, and `close` of that one is this zero
abbrev pub CloseUndoesOpen : Type 0
CloseUndoesOpen = (F : Forest) (c : ℕ) → slice_get (text F) c ≡ Some false
    → (v : ℕ) × (last_rise_before (text F) c (negsuc 0) ≡ Some v) × (first_rise_after (text F) v (negsuc 0) ≡ Some c)
