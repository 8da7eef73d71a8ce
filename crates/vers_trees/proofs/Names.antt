-- The names of specs/ and of other crates that many proofs use.
pub use Rattle.std.proofs.Common.{◌≡◌, ℕ, ◌+◌, ◌-◌, ◌*◌, ◌<◌, ◌≤◌, ◌↔◌, Decides, Bool, true, false, List, [], ◌∷◌, ◌++◌, map, length, get_or, Option, Some, None, slice_get, option_map, zero, suc, refl, ap, ◌∙◌, append_assoc, add_assoc, unwrap_or, ◌≢◌, ℤ, pos, ◌+ℤ◌, ◌-ℤ◌, ◌≤ℤ◌, ◌<ℤ◌, arith, subst, cond, take, count_by, negsuc, add-one, zero-add, suc-add, sym, ◌⊎◌, inl, inr, length-append, ⊎_elim, ◌&&◌, ltb, leb, eqb, ◌/◌, ◌%◌, min, neg_ℤ, not, filter, find, ◌^◌, drop, FitsSigned, w64, set, to_z, of_z, max, length-drop, nat_eq, count_ones, replicate, pow-suc, Result, Ok, Err, MatchResult, MatchOption, bit_or, bit_and, slice_index_or, rules, All, reverse, Contains, IsTrue, ◌==◌, is_some}
pub use Rattle.std.proofs.Math.Nat.{eq-or-lt_of_le, mul-le-mul_right, pow-succ', le-mul_of_pos_right, pow-le-pow_right, mod-eq_of_lt}
pub use Rattle.std.proofs.Math.Seq.{take-append_seam, drop-cons}
pub use Rattle.std.proofs.lemmas.Bool.{ne_eqb, not-true, cond_both, cases_lt, cases_order, lt-ltb, le-ltb, and_from, and_left, and_right, le-leb, lt-leb, cases_Bool, eq-eqb, eqb-true, true_from_ne_false, false_from_ne_true}
pub use Rattle.std.proofs.lemmas.Bool.Decides.{nat_tests, Decides-ltb, Decides-and, leb_tells, Decides-eqb, Decides-like, not_from_Decides, same_from_decides, Decides-int_eq}
pub use Rattle.std.proofs.lemmas.Grind.{common_steps, div_ceil_times}
pub use Rattle.std.proofs.lemmas.Int.{ints, by_lt_z, clamps, to_z-of_z, to_z_pos}
pub use Rattle.std.proofs.lemmas.List.{append-nil, get_or_append_left, get_or_at, get_or-append-add, get_or-map, length-map, get_or_past, map-append, get_or-set_same, get_or-set_other, get_or-drop, length_push, take_more, take_all, take-append-drop, length-take-le, drop-take, length-set, map-id, get_or-reverse, length-reverse, length-take, get_or-take, drop-drop, get_or_default, take-append-le}
pub use Rattle.std.proofs.lemmas.List.Elements.{Contains-get_or, Contains-append_left, Contains-append_right, Contains-append_cases, All-contains_itself, All-filter, All-get_or, filter_passes, All-nil, All-cons, All-head, All-tail, All-append, All-map, All-weaker}
pub use Rattle.std.proofs.lemmas.List.Filters.{length-filter_both}
pub use Rattle.std.proofs.lemmas.List.FromFn.{filter_of_map_range_with_len_more}
pub use Rattle.std.proofs.lemmas.List.Sums.{sum_by-cons, sum_by-append, length-filter, count_by-le-length}
pub use Rattle.std.proofs.lemmas.Nat.{ones-le, pow_pos, shr-shr, mod-pow-add, or_block, and_block, or_lt}
pub use Rattle.std.proofs.lemmas.Nat.Bits.{bit_at_lowest, bit_at-suc, bit_at-trailing_zeros}
pub use Rattle.std.proofs.lemmas.Option.{slice_get-get_or, get_or_from_slice_get, slice_get_within, slice_get_past, cond_some}
pub use Rattle.std.proofs.lemmas.Result.{IfOk-weaker}
pub use Rattle.std.proofs.lemmas.Simd.{map-map}
pub use Rattle.std.specs.Int.{bit_at, int_min, int_max}
pub use Rattle.std.specs.Int.Signed.{lt_z}
pub use Rattle.std.specs.List.{last_or, range_with_len}
pub use Rattle.std.specs.Option.{option_eq}
pub use Rattle.std.specs.Result.{result_ok}
pub use Rattle.vers_bits.proofs.PublicLaws.{length-positions, find_is, none_passing, last_passing_is, count_near, count_up, bit_value_le, byte_value, count_both, count_le, number_below, number-drop, count_limb, count_none, number-take, bit_at-number}
pub use Rattle.vers_bits.specs.Bits.{bit_value, is_bit, number, part}
unfoldable pub use Rattle.vers_bits.specs.Bits.{count, positions, select, limb}
pub use Rattle.vers_bits.specs.Walk.{TakesFirst}
pub use Rattle.vers_rank.specs.Queries.{superblock_count, get_reads, rank_reads, select_reads, get_bits_reads}
unfoldable pub use Rattle.vers_rank.specs.Queries.{part_number_or_zero}
pub use Rattle.vers_tally.proofs.PublicLaws.{digits_half, digits_up, adds_then, adds_weaker, adds_nothing, digits_below_pow, clog_least, clog_is_least, pow_next}
pub use Rattle.vers_tally.specs.Ends.{Walking}
pub use Rattle.vers_tally.specs.Reads.{Reads, AddsAtMost, IsWithin, only_nodes}
unfoldable pub use Rattle.vers_tally.specs.Reads.{digits}
pub use Rattle.vers_trees.specs.Balance.{are_balanced, closes}
pub use Rattle.vers_trees.specs.Bytes.{IsByte, IsEntry, sum_along, position_along, position_in, least_in, greatest_in}
pub use Rattle.vers_trees.specs.Excess.{bit_step}
unfoldable pub use Rattle.vers_trees.specs.Excess.{enclosing, excess, last_rise_before, first_rise_after}
pub use Rattle.vers_trees.specs.Forest.{Forest, text, pairs, IsBalanced, none, tree, parse, moved}
unfoldable pub use Rattle.vers_trees.specs.Forest.{forest_of}
pub use Rattle.vers_trees.specs.Laws.{IsFirstRiseAfter, IsLastRiseBefore}
pub use Rattle.vers_trees.specs.Layout.{block_count, search_reads, enclose_reads, two_searches_reads, clog}
unfoldable pub use Rattle.vers_trees.specs.Layout.{node_count, levels}
pub use Rattle.vers_trees.specs.LevelWalks.{IsAlongLevel}
pub use Rattle.vers_trees.specs.Nodes.{nodes, IsNode, first_of, last_of, next_of, previous_of, children, siblings}
unfoldable pub use Rattle.vers_trees.specs.Nodes.{parent, depth, level, closing, is_ancestor, is_proper_ancestor, node_index, subtree, level_ancestor, nodes_under}
pub use Rattle.vers_trees.specs.ReadLaws.{tree_reads}
pub use Rattle.vers_trees.specs.Siblings.{IsWalkOfSiblings, opening_of, tree_to, opened, tree_from, tree_before, met, walked, MeetsJust, tree_beside}
unfoldable pub use Rattle.vers_trees.specs.Siblings.{siblings_left}
pub use Rattle.vers_trees.specs.Traversals.{pairs_by_closing, postorder}
unfoldable pub use Rattle.vers_trees.specs.Traversals.{subtree_post}
pub use Rattle.vers_trees.specs.WalkReads.{post_reads}
pub use Rattle.vers_trees.specs.declared.trees.bp.min_max.Node.{Node}
pub use Rattle.vers_trees.specs.inside.Bytes.{octal, AreEntries, HasMet, step_along}
pub use Rattle.vers_trees.specs.inside.Closed.{closed_by}
pub use Rattle.vers_trees.specs.inside.Index.{IsIndexed, IsBuilding, IsWidth, IsGrowing, AreFirstBlocks, IsTreeOf, IsPassed, past_reads}
pub use Rattle.vers_trees.specs.inside.MinMax.{empty_node, IsPart, combined, SumsFit, IsNumberAt, IsLevel, IsInRange, IsInRangeOrStart, start_of, Covers, IsAbove, CoveredFrom, AreLeaves, IsMinMax, Sought, sought, target, IsAfter, Passed, HasNone, HasPosition, IsAhead, BeginsAt, LeadsTo, PassedTo, IsOddPart, IsBeside, near_child, far_child, ComesTo, IsMet, left_past}
pub use Rattle.vers_trees.specs.inside.Scans.{sum_past, edge, IsBetween, up_to, IsRise, HasNoRise, scan_reads, block_reads, falls, is_not_closed, rises}
pub use lib.Count.{ones_step, ones-ones}
pub use mir.Val.{bool_byte}
