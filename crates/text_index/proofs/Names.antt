-- The names of specs/ and of other crates that proofs use.
pub use Rattle.std.proofs.Common.{append-nil, Bool, List, Some, [], ap, arith, cond, drop, eqb, false, get_or, inl, inr, leb, length, ltb, map, max, min, not, refl, reverse, rules, set, subst, suc, sym, take, true, true≢false, zero, ℕ, ◌%◌, ◌&&◌, ◌*◌, ◌++◌, ◌+◌, ◌-◌, ◌/◌, ◌<◌, ◌^◌, ◌||◌, ◌∙◌, ◌∷◌, ◌≡◌, ◌≢◌, ◌≤◌}
pub use Rattle.std.proofs.Math.Bool.{and_comm}
pub use Rattle.std.proofs.Math.Nat.{lt_of_mul-lt-mul_right, mod-eq_of_lt, mul-div_cancel, mul-le-mul, mul-le-mul_right, mul-mod_left, one-le-pow, pow-le-pow_right}
pub use Rattle.std.proofs.Math.Seq.{drop-cons, drop-length}
pub use Rattle.std.proofs.lemmas.Bool.{and_from, and_left, and_parts, and_right, cases_Bool, cases_eq, cases_lt, cases_order, eq-eqb, eqb-false, eqb-true, false_from_ne_true, false≢true, le-leb, le-ltb, leb-true, lt-leb, lt-ltb, ltb-false, ltb-true, ne_eqb}
pub use Rattle.std.proofs.lemmas.Bool.Decides.{Decides-eqb, nat_tests}
pub use Rattle.std.proofs.lemmas.Grind.{div_ceil_times}
pub use Rattle.std.proofs.lemmas.List.{drop-drop, drop-take, drop_min, flat_map_more, get_or-drop, get_or-map, get_or-set_other, get_or-set_same, get_or_append_left, get_or_at, get_or_default, get_or-take, get_or_past, get_or_push, length-append, length-drop, length-map, length-set, length-take, map-append, map-id, nil_from_length, reverse-append, reverse-reverse, same_lists, take-append-drop, take-map, take-take, take_all, take_at, take_more}
pub use Rattle.std.proofs.lemmas.List.Elements.{All-map, All-push, filter-append}
pub use Rattle.std.proofs.lemmas.List.FromFn.{fill_by_all, get_or-map-range_with_len, get_or-range_with_len, length-map-range_with_len, length-range_with_len, map-range_with_len_more}
pub use Rattle.std.proofs.lemmas.List.Kept.{AllPairs-from_increasing, IsNonDecreasingBy-filter}
pub use Rattle.std.proofs.lemmas.List.Sorted.{All-permutation, Contains-permutation, IsNonDecreasingBy-from_sort, IsNonDecreasingBy-from_sort_by_key, IsNonDecreasingBy-insert, IsPartitionPoint-from_clause, IsPartitionedBy-ltb, IsPermutation-cons, IsPermutation-insert, IsPermutation-refl, IsPermutation-remove, IsPermutation-sym, IsPermutation-trans, length_permutation, sum_by-IsPermutation}
pub use Rattle.std.proofs.lemmas.List.Sums.{count_by-le-length, count_by_more_no, count_by_more_yes, length-filter, position_or_len_is, prefix_len-le-length, prefix_len_passes, prefix_len_stops, sum_by-cons, sum_by-le-sum_by, sum_by-take-drop, sum_by-take-le, sum_by_more, sum_by_more_le}
pub use Rattle.std.proofs.lemmas.Map.Keys.{IsDistinct-IsPermutation}
pub use Rattle.std.proofs.lemmas.Map.Made.{AllPairs-from_IsDistinct, IsDistinct-from_AllPairs}
pub use Rattle.std.proofs.lemmas.Nat.{div-add-mod', leading_length, mod-mul-add, mod_below, one_shl, pow_below}
pub use Rattle.std.proofs.lemmas.Option.{cond_some, get_or_from_slice_get, slice_get-get_or, slice_get_within}
pub use Rattle.std.specs.Int.{div_ceil}
pub use Rattle.std.proofs.lemmas.List.Edits.{length-remove}
pub use Rattle.std.specs.List.{AllPairs, count_by, insert, position_or_len, prefix_len, range_with_len, remove}
pub use Rattle.std.specs.List.Sorted.{IsNonDecreasing, IsNonDecreasingBy, IsPermutation, IsStrictlyIncreasing}
pub use Rattle.std.specs.Prelude.{All, Contains, filter, slice_get, slice_index_or, slice_range, ◌↔◌, ◌⊎◌}
pub use Rattle.text_index.specs.Columns.{HasColumn, IsIndexable}
pub use Rattle.text_index.specs.Makers.{count_reads, kept_reads, pattern_reads, position_reads, step_reads, symbols_of}
pub use Rattle.text_index.specs.Sizes.{column_of, greatest, kept_marks, kept_rows, number_width, packed_size}
pub use Rattle.text_index.specs.Texts.{IsSuffixOrder, is_kept, row_of, symbols_before}
unfoldable pub use Rattle.text_index.specs.Sizes.{kept_ranks}
unfoldable pub use Rattle.text_index.specs.Texts.{begins_with, suffixes_before, by_suffix, comes_before, positions_in_order, positions_of, occurs_at}
pub use Rattle.text_index.specs.inside.Building.{OrdersBy, PairedUpTo, RankedUpTo, SameOrder, rank_of}
pub use Rattle.text_index.specs.inside.Checking.{CheckedUpTo, HeadsAt, HeadsUpTo, LeadsBack, follows, led}
pub use Rattle.text_index.specs.inside.Groups.{AreQueries, AsksFor, HasComeTo, HaveMoved, HaveRows, IsAbsent, taken_reads}
pub use Rattle.text_index.specs.inside.Paths.{AreLinked, HasCome, HaveCome, IsKeptPath, IsLoaded, IsNext, IsOnePath, IsWalk, NextUpTo, SteppedUpTo, led_by}
unfoldable pub use Rattle.text_index.specs.inside.Paths.{walked, walked_on}
pub use Rattle.text_index.specs.inside.Samples.{AreNumbers, AreSamplesOf, HoldMarked, HoldRanks, HoldRows, IsPacked, PutRows, Walked, between, unpacked}
pub use Rattle.text_index.specs.inside.Suffixes.{Found, IsIndexOf, StepsBack, back, column_position, is_not_after, lesser, passing, seen, text_in}
unfoldable pub use Rattle.text_index.specs.inside.Suffixes.{not_above, spelled, text_of}
pub use Rattle.vers_bits.proofs.PublicLaws.{count_at_select, length-packed, length-positions, passes_first, select_at, select_holds, select_up}
pub use Rattle.vers_bits.specs.Bits.{is_bit, limb_count, low_bits, number, pack, part, positions}
unfoldable pub use Rattle.vers_bits.specs.Bits.{count, part_number, select}
pub use Rattle.vers_bits.specs.Laws.{PackedElementsAreItems}
pub use Rattle.vers_rank.specs.Queries.{get_reads, index_size, select_reads, superblock_count}
pub use Rattle.vers_tally.proofs.PublicLaws.{adds_nothing, adds_then, adds_weaker, digits-le, digits_is, digits_pow, digits_up, pow_next, within_itself}
pub use Rattle.vers_tally.specs.Reads.{AddsAtMost, IsWithin, Reads, digits, no_reads, only_items, only_low_parts, plus, times}
pub use Rattle.vers_wavelet.proofs.PublicLaws.{quantiles_ascend}
pub use Rattle.vers_wavelet.specs.Symbols.{IsKth, Symbols}
pub use Rattle.wavelet_tree.proofs.PublicLaws.{depth-le-height}
pub use Rattle.text_index.specs.declared.rows.RowRange.{RowRange}
pub use Rattle.text_index.specs.declared.rows.TheConstants.{GROUP}
pub use Rattle.wavelet_tree.specs.Queries.{IsSortedRange, access_fork_reads, access_reads, fork_reads, occurring, query_reads, sorted_position, tree_size, walk_reads}
unfoldable pub use Rattle.wavelet_tree.specs.Queries.{sum_reads}
pub use Rattle.wavelet_tree.specs.declared.batch.RangeQuery.{RangeQuery}
unfoldable pub use Rattle.wavelet_tree.specs.Trees.{balanced, depth, height}
pub use Rattle.wavelet_tree.specs.Trees.{starts_of, tree_of}
pub use lib.Count.{count_leading_zeros}
