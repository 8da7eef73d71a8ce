-- Worked rows of the nodes of a forest, which compute.
use Rattle.std.specs.Prelude.{◌≡◌, Bool, true, false, List, [], ◌∷◌, length, Some, None, refl}
use Rattle.vers_trees.specs.Forest.{forest_of}
use Rattle.vers_trees.specs.Nodes.{closing, is_ancestor, is_proper_ancestor, depth, parent, nodes_under, children, siblings, first_of, last_of, next_of, level, level_ancestor, subtree, node_index}
use Rattle.vers_trees.specs.Rows.{bits_110100, three_bytes}

-- the parentheses 1010 and 10
abbrev bits_1010 : List Bool
bits_1010 = true ∷ false ∷ true ∷ false ∷ []

abbrev bits_10 : List Bool
bits_10 = true ∷ false ∷ []

pub children-three_bytes-6 : children (forest_of three_bytes) 6 ≡ 7 ∷ 9 ∷ 11 ∷ 19 ∷ []
unfolding forest_of closing depth parent nodes_under level level_ancestor subtree node_index is_ancestor is_proper_ancestor
children-three_bytes-6 = refl

pub depth-three_bytes-13 : depth (forest_of three_bytes) 13 ≡ 5
unfolding forest_of closing depth parent nodes_under level level_ancestor subtree node_index is_ancestor is_proper_ancestor
depth-three_bytes-13 = refl

pub level_ancestor-three_bytes-13 : level_ancestor (forest_of three_bytes) 13 2 ≡ Some 11
unfolding forest_of closing depth parent nodes_under level level_ancestor subtree node_index is_ancestor is_proper_ancestor
level_ancestor-three_bytes-13 = refl

pub level_rightmost-three_bytes-3 : last_of (level (forest_of three_bytes) 3) ≡ Some 19
unfolding forest_of closing depth parent nodes_under level level_ancestor subtree node_index is_ancestor is_proper_ancestor
level_rightmost-three_bytes-3 = refl

pub level_rightmost-1010-0 : last_of (level (forest_of bits_1010) 0) ≡ Some 2
unfolding forest_of closing depth parent nodes_under level level_ancestor subtree node_index is_ancestor is_proper_ancestor
level_rightmost-1010-0 = refl

pub next_sibling-1010-0 : next_of (siblings (forest_of bits_1010) 0) 0 ≡ Some 2
unfolding forest_of closing depth parent nodes_under level level_ancestor subtree node_index is_ancestor is_proper_ancestor
next_sibling-1010-0 = refl

pub parent-1010-2 : parent (forest_of bits_1010) 2 ≡ None
unfolding forest_of closing depth parent nodes_under level level_ancestor subtree node_index is_ancestor is_proper_ancestor
parent-1010-2 = refl

pub children-110100-0 : children (forest_of bits_110100) 0 ≡ 1 ∷ 3 ∷ []
unfolding forest_of closing depth parent nodes_under level level_ancestor subtree node_index is_ancestor is_proper_ancestor
children-110100-0 = refl

pub node_index-110100-3 : node_index (forest_of bits_110100) 3 ≡ 2
unfolding forest_of closing depth parent nodes_under level level_ancestor subtree node_index is_ancestor is_proper_ancestor
node_index-110100-3 = refl

pub level_next-110100-1 : next_of (level (forest_of bits_110100) (depth (forest_of bits_110100) 1)) 1 ≡ Some 3
unfolding forest_of closing depth parent nodes_under level level_ancestor subtree node_index is_ancestor is_proper_ancestor
level_next-110100-1 = refl

pub is_ancestor-110100-1-3 : is_ancestor (forest_of bits_110100) 1 3 ≡ false
unfolding forest_of closing depth parent nodes_under level level_ancestor subtree node_index is_ancestor is_proper_ancestor
is_ancestor-110100-1-3 = refl

pub level_leftmost-110100-2 : first_of (level (forest_of bits_110100) 2) ≡ None
unfolding forest_of closing depth parent nodes_under level level_ancestor subtree node_index is_ancestor is_proper_ancestor
level_leftmost-110100-2 = refl

pub level_ancestor-110100-3-far : level_ancestor (forest_of bits_110100) 3 9223372036854775808 ≡ None
unfolding forest_of closing depth parent nodes_under level level_ancestor subtree node_index is_ancestor is_proper_ancestor
level_ancestor-110100-3-far = refl

pub depth-10-0 : depth (forest_of bits_10) 0 ≡ 0
unfolding forest_of closing depth parent nodes_under level level_ancestor subtree node_index is_ancestor is_proper_ancestor
depth-10-0 = refl

pub leaf-10-0 : children (forest_of bits_10) 0 ≡ []
unfolding forest_of closing depth parent nodes_under level level_ancestor subtree node_index is_ancestor is_proper_ancestor
leaf-10-0 = refl

pub parent-10-0 : parent (forest_of bits_10) 0 ≡ None
unfolding forest_of closing depth parent nodes_under level level_ancestor subtree node_index is_ancestor is_proper_ancestor
parent-10-0 = refl

pub level_rightmost-10-0 : last_of (level (forest_of bits_10) 0) ≡ Some 0
unfolding forest_of closing depth parent nodes_under level level_ancestor subtree node_index is_ancestor is_proper_ancestor
level_rightmost-10-0 = refl

pub subtree_size-10-0 : length (subtree (forest_of bits_10) 0) ≡ 1
unfolding forest_of closing depth parent nodes_under level level_ancestor subtree node_index is_ancestor is_proper_ancestor
subtree_size-10-0 = refl
