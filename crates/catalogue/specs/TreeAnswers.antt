-- The queries of a list of parentheses.
use Rattle.std.specs.Prelude.{ℕ, ◌+◌, negsuc, Bool, true, ◌&&◌, nat_lt, List, [], ◌∷◌, length, slice_get, Option, Some, None, option_map}
use Rattle.std.specs.Int.{w64, cast_signed, cast_unsigned}
use Rattle.vers_bits.specs.Bits.{bit_value, count, select}
use Rattle.vers_trees.specs.Balance.{are_balanced, has_node}
use Rattle.vers_trees.specs.Excess.{excess, first_rise_after, last_rise_before, enclosing}
use Rattle.vers_trees.specs.Forest.{forest_of}
use Rattle.vers_trees.specs.Layout.{tree_heap_size}
use Rattle.vers_trees.specs.Nodes.{is_ancestor, level_ancestor}
use Rattle.vers_trees.specs.Relatives.{relative, measure, level_end}
use Rattle.catalogue.specs.declared.answer.Answer.{Answer}
use Rattle.catalogue.specs.declared.query.Query.{Query}
use Rattle.catalogue.specs.declared.query.Query.TheVariants.{Len, Get, HeapSize, Tree, Node, LevelAncestor, Measure, Level, HasNode, IsAncestor}
use Rattle.catalogue.specs.declared.query.TreeQuery.{TreeQuery}
use Rattle.catalogue.specs.declared.query.TreeQuery.TheVariants.{Size, IsBalanced, Excess, Close, Open, Enclose, NodeHandle, FwdSearch, BwdSearch, Root}
use Rattle.catalogue.specs.declared.answer.Answer.TheVariants.{Found, Unknown}
use Rattle.catalogue.specs.Answers.{found_or_absent, decided, answer_if}

-- the position of the first bit
abbrev pub first_position : List Bool → Option ℕ
first_position [] = None
first_position (bit ∷ bits) = Some 0

-- the excess past a position, as its 64 bits
abbrev pub excess_answer : List Bool → ℕ → Answer
excess_answer bits position = answer_if (nat_lt position (length bits)) (Found (cast_unsigned w64 (excess bits (position + 1))))

-- from any parentheses. A signed number is passed as its 64 bits
abbrev pub any_tree_answer : List Bool → TreeQuery → ℕ → ℕ → Answer
any_tree_answer bits Size a b = Found (count true bits (length bits))
any_tree_answer bits IsBalanced a b = decided (are_balanced bits)
any_tree_answer bits Excess a b = excess_answer bits a
any_tree_answer bits Close a b = found_or_absent (first_rise_after bits a (negsuc 0))
any_tree_answer bits Open a b = found_or_absent (last_rise_before bits a (negsuc 0))
any_tree_answer bits Enclose a b = found_or_absent (enclosing bits a)
any_tree_answer bits NodeHandle a b = Found (select true bits a)
any_tree_answer bits FwdSearch a b = found_or_absent (first_rise_after bits a (cast_signed w64 b))
any_tree_answer bits BwdSearch a b = found_or_absent (last_rise_before bits a (cast_signed w64 b))
any_tree_answer bits Root a b = found_or_absent (first_position bits)

-- from the parentheses of a tree with blocks of `block_size` bits, other than about the relatives of a node
abbrev pub whole_answer : (block_size : ℕ) → List Bool → Query → ℕ → ℕ → Answer
whole_answer block_size bits Len a b = Found (length bits)
whole_answer block_size bits Get a b = found_or_absent (option_map bit_value (slice_get bits a))
whole_answer block_size bits HeapSize a b = Found (tree_heap_size block_size bits)
whole_answer block_size bits (Tree query) a b = any_tree_answer bits query a b
whole_answer block_size bits HasNode a b = decided (has_node bits a)
whole_answer block_size bits (Level which) a b = answer_if (are_balanced bits) (found_or_absent (level_end (forest_of bits) which a))
whole_answer block_size bits _ a b = Unknown

-- the answer of each query
abbrev pub tree_answer : (block_size : ℕ) → List Bool → Query → ℕ → ℕ → ℕ → Answer
tree_answer block_size bits (Node which) a b c = answer_if (has_node bits a) (found_or_absent (relative (forest_of bits) which a))
tree_answer block_size bits LevelAncestor a b c = answer_if (has_node bits a) (found_or_absent (level_ancestor (forest_of bits) a b))
tree_answer block_size bits (Measure which) a b c = answer_if (has_node bits a) (Found (measure (forest_of bits) which a))
tree_answer block_size bits IsAncestor a b c = answer_if (has_node bits a && has_node bits b) (decided (is_ancestor (forest_of bits) a b))
tree_answer block_size bits query a b c = whole_answer block_size bits query a b
