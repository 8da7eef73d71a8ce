-- Worked rows of the definitions, which compute.
use Rattle.std.specs.Prelude.{◌≡◌, Bool, true, false, List, [], ◌∷◌, replicate, pos, negsuc, Some, None, refl}
use Rattle.vers_bits.specs.Bits.{count}
use Rattle.vers_tally.specs.Reads.{digits}
use Rattle.vers_trees.specs.Excess.{excess, first_rise_after, last_rise_before, enclosing}
use Rattle.vers_trees.specs.Forest.{Forest, none, tree, text, pairs}
use Rattle.vers_trees.specs.Layout.{levels, node_count, tree_heap_size}

-- a node with two leaves
abbrev node_with_two : Forest
node_with_two = tree (tree none (tree none none)) none

-- the parentheses 110100
abbrev pub bits_110100 : List Bool
bits_110100 = true ∷ true ∷ false ∷ true ∷ false ∷ false ∷ []

pub text-two : text node_with_two ≡ bits_110100
text-two = refl

pub pairs-two : pairs node_with_two ≡ (0, 5) ∷ (1, 2) ∷ (3, 4) ∷ []
pairs-two = refl

pub enclosing-110100-4 : enclosing bits_110100 4 ≡ Some 0
unfolding enclosing last_rise_before excess count
enclosing-110100-4 = refl

pub heap_size-110100-1 : tree_heap_size 1 bits_110100 ≡ 362
unfolding node_count digits count
heap_size-110100-1 = refl

pub heap_size-110100-512 : tree_heap_size 512 bits_110100 ≡ 98
unfolding node_count digits count
heap_size-110100-512 = refl

-- the parentheses 11100111 01011100 10010000
abbrev pub three_bytes : List Bool
three_bytes = true ∷ true ∷ true ∷ false ∷ false ∷ true ∷ true ∷ true ∷ false ∷ true ∷ false ∷ true ∷ true ∷ true ∷ false ∷ false ∷ true ∷ false ∷ false ∷ true ∷ false ∷ false ∷ false ∷ false ∷ []

pub close-three_bytes-1 : first_rise_after three_bytes 1 (negsuc 0) ≡ Some 4
unfolding first_rise_after excess count
close-three_bytes-1 = refl

pub close-three_bytes-5 : first_rise_after three_bytes 5 (negsuc 0) ≡ Some 22
unfolding first_rise_after excess count
close-three_bytes-5 = refl

pub open-three_bytes-18 : last_rise_before three_bytes 18 (negsuc 0) ≡ Some 11
unfolding last_rise_before excess count
open-three_bytes-18 = refl

pub excess-three_bytes-13 : excess three_bytes 13 ≡ pos 5
unfolding excess count
excess-three_bytes-13 = refl

pub nodes-three_bytes-8 : node_count 8 24 ≡ 6
unfolding node_count digits
nodes-three_bytes-8 = refl

pub levels-three_bytes-8 : levels 8 24 ≡ 3
unfolding levels digits
levels-three_bytes-8 = refl

pub heap_size-three_bytes-8 : tree_heap_size 8 three_bytes ≡ 194
unfolding node_count digits count
heap_size-three_bytes-8 = refl

pub heap_size-three_bytes-12 : tree_heap_size 12 three_bytes ≡ 122
unfolding node_count digits count
heap_size-three_bytes-12 = refl

pub heap_size-three_bytes-512 : tree_heap_size 512 three_bytes ≡ 98
unfolding node_count digits count
heap_size-three_bytes-512 = refl

pub no_levels : levels 8 0 ≡ 0
unfolding levels
no_levels = refl

pub no_nodes : node_count 8 0 ≡ 0
unfolding node_count
no_nodes = refl

-- the parentheses 01, which are not balanced
abbrev bits_01 : List Bool
bits_01 = false ∷ true ∷ []

pub forward-01-0 : first_rise_after bits_01 0 (pos 1) ≡ Some 1
unfolding first_rise_after excess count
forward-01-0 = refl

pub backward-01-1 : last_rise_before bits_01 1 (pos 1) ≡ Some 0
unfolding last_rise_before excess count
backward-01-1 = refl

pub forward-01-least : first_rise_after bits_01 0 (negsuc 9223372036854775807) ≡ None
unfolding first_rise_after excess count
forward-01-least = refl

-- the parentheses 1010101011
abbrev bits_1010101011 : List Bool
bits_1010101011 = true ∷ false ∷ true ∷ false ∷ true ∷ false ∷ true ∷ false ∷ true ∷ true ∷ []

pub backward-1010101011-8 : last_rise_before bits_1010101011 8 (pos 0) ≡ Some 6
unfolding last_rise_before excess count
backward-1010101011-8 = refl

pub forward-1010101011-0 : first_rise_after bits_1010101011 0 (pos 0) ≡ Some 2
unfolding first_rise_after excess count
forward-1010101011-0 = refl

pub backward-ones-16 : last_rise_before (replicate 24 true) 16 (pos 0) ≡ None
unfolding last_rise_before excess count
backward-ones-16 = refl

pub backward-ones-16-least : last_rise_before (replicate 24 true) 16 (negsuc 15) ≡ Some 0
unfolding last_rise_before excess count
backward-ones-16-least = refl

pub forward-nothing : first_rise_after [] 0 (pos 0) ≡ None
unfolding first_rise_after
forward-nothing = refl

pub backward-past : last_rise_before bits_01 2 (pos 0) ≡ None
unfolding last_rise_before
backward-past = refl
