-- The laws of the orders of nodes, as statements.
use Rattle.std.specs.Prelude.{◌≡◌, ℕ, ◌<◌, Bool, List, map, length, true, false}
use Rattle.vers_bits.specs.Bits.{count, positions, select}
use Rattle.vers_trees.specs.Forest.{Forest, text, IsBalanced, forest_of}
use Rattle.vers_trees.specs.Nodes.{nodes, IsNode, closing}
use Rattle.vers_trees.specs.Traversals.{postorder}

-- the nodes in preorder are opened by the ones, in order
abbrev pub PreorderOpensInOrder : Type 0
PreorderOpensInOrder = (F : Forest) → nodes F ≡ positions true (text F)

-- the nodes in postorder are closed by the zeros, in order
abbrev pub PostorderClosesInOrder : Type 0
PostorderClosesInOrder = (F : Forest) → map (closing F) (postorder F) ≡ positions false (text F)

-- in a balanced list each one opens a node
abbrev pub OnesAreNodes : Type 0
OnesAreNodes = (bits : List Bool) (i : ℕ) → IsBalanced bits → i < count true bits (length bits) → IsNode (forest_of bits) (select true bits i)
