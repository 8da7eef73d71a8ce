-- Worked rows of the definitions, which compute.
use Rattle.std.specs.Prelude.{◌≡◌, ℕ, ◌++◌, true, false, List, [], ◌∷◌, codes, Some, None, refl}
use Rattle.std.specs.Fmt.{digits}
use Rattle.vers_bits.specs.Bits.{count, positions, select}
use Rattle.vers_sorted.specs.Sorted.{is_element, below, least_not_below}
use Rattle.vers_sorted.specs.Ones.{ones_at}
use Rattle.vers_wavelet.specs.Symbols.{occurrences, range_elements, kth_by_size, greatest_up_to, least_from, as_word}
use Rattle.vers_wavelet.specs.Makers.{low_symbols}
use Rattle.vers_trees.specs.Excess.{excess, first_rise_after, last_rise_before, enclosing}
use Rattle.vers_trees.specs.Forest.{forest_of}
use Rattle.vers_trees.specs.Nodes.{closing, is_ancestor, is_proper_ancestor, depth, parent, nodes_under, level, level_ancestor, subtree, node_index}
use Rattle.vers_trees.specs.Traversals.{subtree_post}
use Rattle.vers_rmq.specs.Minima.{is_least as costs_least, first_least, first_least_of, least_position}
use Rattle.postings.specs.Posted.{positions_between as positions_of_range, cheapest, common}
use Rattle.vers_trees.specs.declared.trees.bp.relatives.LevelEnd.TheVariants.{Rightmost}
use Rattle.vers_words.specs.Text.{number_of, signed_number_of}
use Rattle.vers_engine.specs.Lines.{lines_of}
use Rattle.vers_engine.specs.Replies.{answer_to_parts, holding_after_parts}
use Rattle.catalogue.specs.Structures.{IndexedBits, SparseBits, SortedElements, SymbolList, Parentheses, BlockValues, Documents, DocumentLists}
use Rattle.inverted.specs.Makers.{lists_from}
use Rattle.vers_cli.specs.Holding.{Holding}
use Rattle.vers_cli.specs.Loads.{pairs_of, posted_of}
use Rattle.vers_cli.specs.Answers.{answer_to, holding_after, answers_to}

-- a text with the end of a line
abbrev ended : List ℕ → List ℕ
ended text = text ++ 10 ∷ []

-- the current structure: the elements 4, 4 and 9
abbrev held_449 : Holding
held_449 = Some (SortedElements (4 ∷ 4 ∷ 9 ∷ []))

-- values of which some are equal
abbrev values_31211 : List ℕ
values_31211 = 3 ∷ 1 ∷ 2 ∷ 1 ∷ 1 ∷ []

-- the bits 0110
abbrev held_0110 : Holding
held_0110 = Some (IndexedBits (false ∷ true ∷ true ∷ false ∷ []))

-- the answer to a load line is the length, and its list is the current structure
pub answer-bits_0110 : answer_to None (codes "bits 0110") ≡ ended (codes "4")
unfolding answer_to_parts digits
answer-bits_0110 = refl

pub held-bits_0110 : holding_after None (codes "bits 0110") ≡ held_0110
unfolding holding_after_parts
held-bits_0110 = refl

-- a malformed load line keeps the current structure
pub held-bits_2 : holding_after held_0110 (codes "bits 2") ≡ held_0110
unfolding holding_after_parts
held-bits_2 = refl

pub answer-rank1_3 : answer_to held_0110 (codes "rank1 3") ≡ ended (codes "2")
unfolding answer_to_parts number_of count digits
answer-rank1_3 = refl

pub answer-select1_1 : answer_to held_0110 (codes "select1 1") ≡ ended (codes "2")
unfolding answer_to_parts number_of select positions digits
answer-select1_1 = refl

pub answer-select1_2 : answer_to held_0110 (codes "select1 2") ≡ ended (codes "4")
unfolding answer_to_parts number_of select positions digits
answer-select1_2 = refl

pub answer-get_9 : answer_to held_0110 (codes "get 9") ≡ ended (codes "none")
unfolding answer_to_parts number_of
answer-get_9 = refl

-- the name is tested before the current structure, and the structure before the arguments
pub answer-no_name : answer_to None (codes "foo 1") ≡ ended (codes "bad line")
unfolding answer_to_parts
answer-no_name = refl

pub answer-nothing_held : answer_to None (codes "rank1 x") ≡ ended (codes "wrong structure")
unfolding answer_to_parts
answer-nothing_held = refl

pub answer-malformed : answer_to held_0110 (codes "rank1 x") ≡ ended (codes "bad line")
unfolding answer_to_parts number_of
answer-malformed = refl

-- an ascending list may have equal elements, and a sparse list takes each position once
pub answer-sorted_449 : answer_to None (codes "sorted 4 4 9") ≡ ended (codes "3")
unfolding answer_to_parts number_of digits
answer-sorted_449 = refl

pub held-sorted_449 : holding_after None (codes "sorted 4 4 9") ≡ held_449
unfolding holding_after_parts number_of
held-sorted_449 = refl

pub answer-rank_5 : answer_to held_449 (codes "rank 5") ≡ ended (codes "2")
unfolding answer_to_parts number_of below digits
answer-rank_5 = refl

-- a list is answered with one space between its numbers, the empty list by an empty line
pub answer-iter : answer_to held_449 (codes "iter") ≡ ended (codes "4 4 9")
unfolding answer_to_parts digits
answer-iter = refl

pub answer-iter_none : answer_to (Some (SortedElements [])) (codes "iter") ≡ ended []
unfolding answer_to_parts
answer-iter_none = refl

-- the lines of another structure
pub answer-rank1_of_sorted : answer_to held_449 (codes "rank1 5") ≡ ended (codes "wrong structure")
unfolding answer_to_parts
answer-rank1_of_sorted = refl

pub held-sparse_5_13 : holding_after None (codes "sparse 5 1 3") ≡ Some (SparseBits (false ∷ true ∷ false ∷ true ∷ false ∷ []))
unfolding holding_after_parts number_of ones_at is_element
held-sparse_5_13 = refl

-- a position that is not below the length, and a line without a length
pub answer-position_outside : answer_to held_449 (codes "sparse 3 3") ≡ ended (codes "refused")
unfolding answer_to_parts number_of
answer-position_outside = refl

pub answer-no_length : answer_to held_449 (codes "sparse") ≡ ended (codes "bad line")
unfolding answer_to_parts
answer-no_length = refl

-- a range has both its ends, and of equal least values the first position counts
pub first_least-0-4 : first_least values_31211 0 4 ≡ Some 1
unfolding least_position first_least_of costs_least
first_least-0-4 = refl

pub first_least-2-4 : first_least values_31211 2 4 ≡ Some 3
unfolding least_position first_least_of costs_least
first_least-2-4 = refl

pub first_least-4-4 : first_least values_31211 4 4 ≡ Some 4
unfolding least_position first_least_of costs_least
first_least-4-4 = refl

-- the start is past the end, or the end is no position
pub first_least-2-1 : first_least values_31211 2 1 ≡ None
first_least-2-1 = refl

pub first_least-0-5 : first_least values_31211 0 5 ≡ None
first_least-0-5 = refl

pub answer-range_min_2_4 : answer_to (Some (BlockValues values_31211)) (codes "range_min 2 4") ≡ ended (codes "3")
unfolding answer_to_parts number_of digits least_position first_least_of costs_least
answer-range_min_2_4 = refl

pub answer-range_min_0_5 : answer_to (Some (BlockValues values_31211)) (codes "range_min 0 5") ≡ ended (codes "refused")
unfolding answer_to_parts number_of
answer-range_min_0_5 = refl

-- a node with two leaves
abbrev held_tree : Holding
held_tree = Some (Parentheses (true ∷ true ∷ false ∷ true ∷ false ∷ false ∷ []))

pub held-tree_110100 : holding_after held_0110 (codes "tree 110100") ≡ held_tree
unfolding holding_after_parts
held-tree_110100 = refl

pub answer-close_0 : answer_to held_tree (codes "close 0") ≡ ended (codes "5")
unfolding answer_to_parts number_of first_rise_after excess count digits
answer-close_0 = refl

pub answer-enclose_4 : answer_to held_tree (codes "enclose 4") ≡ ended (codes "0")
unfolding answer_to_parts number_of enclosing last_rise_before excess count digits
answer-enclose_4 = refl

pub answer-bwd_search_5 : answer_to held_tree (codes "bwd_search 5 -1") ≡ ended (codes "0")
unfolding answer_to_parts number_of signed_number_of last_rise_before excess count digits
answer-bwd_search_5 = refl

pub answer-dfs_iter : answer_to held_tree (codes "dfs_iter") ≡ ended (codes "0 1 3")
unfolding answer_to_parts positions digits
answer-dfs_iter = refl

-- the excess may be below 0, and is refused past the end
pub answer-excess_0 : answer_to (Some (Parentheses (false ∷ true ∷ []))) (codes "excess 0") ≡ ended (codes "-1")
unfolding answer_to_parts number_of excess count digits
answer-excess_0 = refl

pub answer-excess_2 : answer_to (Some (Parentheses (false ∷ true ∷ []))) (codes "excess 2") ≡ ended (codes "refused")
unfolding answer_to_parts number_of
answer-excess_2 = refl

-- the symbols 1, 5 and 3 of three bits each
abbrev held_153 : Holding
held_153 = Some (SymbolList (record { width = 3; items = 1 ∷ 5 ∷ 3 ∷ [] }))

pub held-symbols_153 : holding_after held_0110 (codes "symbols 3 1 5 3") ≡ held_153
unfolding holding_after_parts number_of low_symbols
held-symbols_153 = refl

-- the low bits of each number count, and symbols of no bits are none
pub held-symbols_9_2 : holding_after held_0110 (codes "symbols 1 9 2") ≡ Some (SymbolList (record { width = 1; items = 1 ∷ 0 ∷ [] }))
unfolding holding_after_parts number_of low_symbols
held-symbols_9_2 = refl

pub answer-symbols_0 : answer_to held_153 (codes "symbols 0 7 7") ≡ ended (codes "0")
unfolding answer_to_parts number_of low_symbols digits
answer-symbols_0 = refl

-- a width of more than 64 bits, and a line without a width
pub answer-symbols_65 : answer_to held_153 (codes "symbols 65 1") ≡ ended (codes "refused")
unfolding answer_to_parts number_of
answer-symbols_65 = refl

pub answer-no_width : answer_to held_153 (codes "symbols") ≡ ended (codes "bad line")
unfolding answer_to_parts
answer-no_width = refl

pub answer-iter_sorted_u64 : answer_to held_153 (codes "iter_sorted_u64") ≡ ended (codes "1 3 5")
unfolding answer_to_parts digits
answer-iter_sorted_u64 = refl

pub answer-rank_u64_3_11 : answer_to held_153 (codes "rank_u64 3 11") ≡ ended (codes "1")
unfolding answer_to_parts number_of occurrences digits as_word
answer-rank_u64_3_11 = refl

pub answer-select_u64_0_3 : answer_to held_153 (codes "select_u64 0 3") ≡ ended (codes "2")
unfolding answer_to_parts number_of occurrences digits as_word
answer-select_u64_0_3 = refl

pub answer-predecessor_u64_4 : answer_to held_153 (codes "predecessor_u64 0 3 4") ≡ ended (codes "3")
unfolding answer_to_parts number_of range_elements greatest_up_to digits as_word
answer-predecessor_u64_4 = refl

pub answer-successor_u64_4 : answer_to held_153 (codes "successor_u64 0 3 4") ≡ ended (codes "5")
unfolding answer_to_parts number_of range_elements least_from digits as_word
answer-successor_u64_4 = refl

pub answer-range_median_u64_0_2 : answer_to held_153 (codes "range_median_u64 0 2") ≡ ended (codes "1")
unfolding answer_to_parts number_of range_elements kth_by_size digits as_word
answer-range_median_u64_0_2 = refl

-- a range that begins past the last position, and one that ends before it begins
pub answer-rank_range_u64_3_3 : answer_to held_153 (codes "rank_range_u64 3 3 1") ≡ ended (codes "none")
unfolding answer_to_parts number_of as_word
answer-rank_range_u64_3_3 = refl

pub answer-range_max_u64_3_2 : answer_to held_153 (codes "range_max_u64 3 2") ≡ ended (codes "none")
unfolding answer_to_parts number_of range_elements kth_by_size as_word
answer-range_max_u64_3_2 = refl

-- the nodes of a forest
pub answer-children_0 : answer_to held_tree (codes "children 0") ≡ ended (codes "1 3")
unfolding answer_to_parts number_of digits forest_of closing is_ancestor is_proper_ancestor depth parent nodes_under level level_ancestor subtree node_index
answer-children_0 = refl

pub answer-children_1 : answer_to held_tree (codes "children 1") ≡ ended ([])
unfolding answer_to_parts number_of digits forest_of closing is_ancestor is_proper_ancestor depth parent nodes_under level level_ancestor subtree node_index
answer-children_1 = refl

pub answer-rev_children_0 : answer_to held_tree (codes "rev_children 0") ≡ ended (codes "3 1")
unfolding answer_to_parts number_of digits forest_of closing is_ancestor is_proper_ancestor depth parent nodes_under level level_ancestor subtree node_index
answer-rev_children_0 = refl

pub answer-dfs_post_iter : answer_to held_tree (codes "dfs_post_iter") ≡ ended (codes "1 3 0")
unfolding answer_to_parts digits forest_of
answer-dfs_post_iter = refl

pub answer-subtree_post_iter_0 : answer_to held_tree (codes "subtree_post_iter 0") ≡ ended (codes "1 3 0")
unfolding answer_to_parts number_of digits forest_of closing is_ancestor is_proper_ancestor depth parent nodes_under level level_ancestor subtree node_index subtree_post
answer-subtree_post_iter_0 = refl

pub answer-depth_3 : answer_to held_tree (codes "depth 3") ≡ ended (codes "1")
unfolding answer_to_parts number_of digits forest_of closing is_ancestor is_proper_ancestor depth parent nodes_under level level_ancestor subtree node_index
answer-depth_3 = refl

pub answer-is_leaf_3 : answer_to held_tree (codes "is_leaf 3") ≡ ended (codes "1")
unfolding answer_to_parts number_of digits forest_of closing is_ancestor is_proper_ancestor depth parent nodes_under level level_ancestor subtree node_index
answer-is_leaf_3 = refl

pub answer-is_ancestor_1_3 : answer_to held_tree (codes "is_ancestor 1 3") ≡ ended (codes "0")
unfolding answer_to_parts number_of digits forest_of closing is_ancestor is_proper_ancestor depth parent nodes_under level level_ancestor subtree node_index
answer-is_ancestor_1_3 = refl

pub answer-level_ancestor_3_2 : answer_to held_tree (codes "level_ancestor 3 2") ≡ ended (codes "none")
unfolding answer_to_parts number_of digits forest_of closing is_ancestor is_proper_ancestor depth parent nodes_under level level_ancestor subtree node_index
answer-level_ancestor_3_2 = refl

-- a position without a one, parentheses that are not balanced, and malformed arguments, which are tested first
pub answer-parent_2 : answer_to held_tree (codes "parent 2") ≡ ended (codes "refused")
unfolding answer_to_parts number_of
answer-parent_2 = refl

pub answer-parent_of_unbalanced : answer_to (Some (Parentheses (false ∷ true ∷ []))) (codes "parent 1") ≡ ended (codes "refused")
unfolding answer_to_parts number_of
answer-parent_of_unbalanced = refl

pub answer-level_leftmost_of_unbalanced : answer_to (Some (Parentheses (false ∷ true ∷ []))) (codes "level_leftmost 0") ≡ ended (codes "refused")
unfolding answer_to_parts number_of
answer-level_leftmost_of_unbalanced = refl

pub answer-parent_x_of_unbalanced : answer_to (Some (Parentheses (false ∷ true ∷ []))) (codes "parent x") ≡ ended (codes "bad line")
unfolding answer_to_parts number_of
answer-parent_x_of_unbalanced = refl

-- documents and costs alternate, and a document without a cost
pub posted_of-2735 : posted_of (2 ∷ 7 ∷ 3 ∷ 5 ∷ []) ≡ Some (record { documents = 2 ∷ 3 ∷ []; costs = 7 ∷ 5 ∷ [] })
posted_of-2735 = refl

pub posted_of-273 : posted_of (2 ∷ 7 ∷ 3 ∷ []) ≡ None
posted_of-273 = refl

-- four documents with their costs
abbrev held_postings : Holding
held_postings = Some (Documents (record { documents = 2 ∷ 5 ∷ 9 ∷ 12 ∷ []; costs = 7 ∷ 3 ∷ 3 ∷ 8 ∷ [] }))

pub held-postings : holding_after held_0110 (codes "postings 2 7 5 3 9 3 12 8") ≡ held_postings
unfolding holding_after_parts number_of
held-postings = refl

pub answer-contains_6 : answer_to held_postings (codes "contains 6") ≡ ended (codes "0")
unfolding answer_to_parts number_of is_element digits
answer-contains_6 = refl

pub answer-next_6 : answer_to held_postings (codes "next 6") ≡ ended (codes "9")
unfolding answer_to_parts number_of least_not_below digits
answer-next_6 = refl

pub answer-cheapest_6_12 : answer_to held_postings (codes "cheapest 6 12") ≡ ended (codes "9")
unfolding answer_to_parts number_of cheapest positions_of_range first_least_of costs_least digits
answer-cheapest_6_12 = refl

pub answer-intersect : answer_to held_postings (codes "intersect 5 6 12 40") ≡ ended (codes "5 12")
unfolding answer_to_parts number_of common is_element digits
answer-intersect = refl

-- documents that don't ascend strictly are refused, and a document without a cost is malformed
pub answer-intersect_5_5 : answer_to held_postings (codes "intersect 5 5") ≡ ended (codes "refused")
unfolding answer_to_parts number_of
answer-intersect_5_5 = refl

pub answer-postings_3_1_2_1 : answer_to held_postings (codes "postings 3 1 2 1") ≡ ended (codes "refused")
unfolding answer_to_parts number_of
answer-postings_3_1_2_1 = refl

pub answer-postings_1 : answer_to held_postings (codes "postings 1") ≡ ended (codes "bad line")
unfolding answer_to_parts number_of
answer-postings_1 = refl

-- numbers read as pairs, and a last number without a second one
pub pairs_of-0307 : pairs_of (0 ∷ 3 ∷ 0 ∷ 7 ∷ []) ≡ Some ((0, 3) ∷ (0, 7) ∷ [])
pairs_of-0307 = refl

pub pairs_of-030 : pairs_of (0 ∷ 3 ∷ 0 ∷ []) ≡ None
pairs_of-030 = refl

-- an index of three terms
abbrev held_index : Holding
held_index = Some (DocumentLists (record { lists = (3 ∷ 7 ∷ []) ∷ [] ∷ (3 ∷ 5 ∷ []) ∷ []; universe = 10; numbers = 3 ∷ 7 ∷ 23 ∷ 25 ∷ [] }))

pub held-inverted : holding_after held_0110 (codes "inverted 3 10 0 3 0 7 2 3 2 5") ≡ held_index
unfolding holding_after_parts number_of lists_from
held-inverted = refl

pub answer-count_0 : answer_to held_index (codes "count 0") ≡ ended (codes "2")
unfolding answer_to_parts number_of digits
answer-count_0 = refl

pub answer-next_2_4 : answer_to held_index (codes "next 2 4") ≡ ended (codes "5")
unfolding answer_to_parts number_of least_not_below digits
answer-next_2_4 = refl

pub answer-documents_0 : answer_to held_index (codes "documents 0") ≡ ended (codes "3 7")
unfolding answer_to_parts number_of digits
answer-documents_0 = refl

pub answer-and_0_2 : answer_to held_index (codes "and 0 2") ≡ ended (codes "3")
unfolding answer_to_parts number_of is_element digits
answer-and_0_2 = refl

pub answer-or_0_2 : answer_to held_index (codes "or 0 2") ≡ ended (codes "3 5 7")
unfolding answer_to_parts number_of is_element digits
answer-or_0_2 = refl

pub answer-without_0_2 : answer_to held_index (codes "without 0 2") ≡ ended (codes "7")
unfolding answer_to_parts number_of is_element digits
answer-without_0_2 = refl

-- pairs that don't ascend, or are not below their limits, are refused, and a term without a document is malformed
pub answer-inverted_twice : answer_to held_index (codes "inverted 3 10 0 3 0 3") ≡ ended (codes "refused")
unfolding answer_to_parts number_of
answer-inverted_twice = refl

pub answer-inverted_3 : answer_to held_index (codes "inverted 3 10 3 0") ≡ ended (codes "refused")
unfolding answer_to_parts number_of
answer-inverted_3 = refl

pub answer-inverted_term : answer_to held_index (codes "inverted 3 10 0 3 0") ≡ ended (codes "bad line")
unfolding answer_to_parts number_of
answer-inverted_term = refl

-- a line without words has no answer
pub answer-no_words : answer_to held_0110 (codes "  ") ≡ []
unfolding answer_to_parts
answer-no_words = refl

-- an input of five lines and all its answers
abbrev input : List ℕ
input = ended (codes "bits 0110") ++ ended (codes "rank1 3") ++ ended (codes "select1 1") ++ ended (codes "select1 2") ++ ended (codes "get 9")

pub answers-input : answers_to None (lines_of input)
    ≡ ended (codes "4") ++ ended (codes "2") ++ ended (codes "2") ++ ended (codes "4") ++ ended (codes "none")
unfolding answer_to_parts holding_after_parts number_of count select positions digits
answers-input = refl
