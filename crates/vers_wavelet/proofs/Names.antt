-- The names of specs/ and of other crates that proofs use.
pub use Rattle.std.proofs.Common.{Bool, Err, List, None, Ok, Option, Result, Some, [], add-one, add-zero, ap, arith, cond, drop, eqb, false, get_or, inl, inr, leb, length, ltb, map, min, not, refl, replicate, rules, set, slice_get, subst, suc, sym, take, true, true≢false, zero, ℕ, ◌%◌, ◌&&◌, ◌*◌, ◌++◌, ◌+◌, ◌-◌, ◌/◌, ◌<◌, ◌^◌, ◌∙◌, ◌∷◌, ◌≡◌, ◌≢◌, ◌≤◌, ◌⊎◌}
pub use Rattle.std.proofs.Math.Bool.{not-not}
pub use Rattle.std.proofs.Math.Nat.{div-div-eq-div-mul, div-le_self, div-mul-le_self, mod-eq_of_lt, mod-lt, mod-one, mul-le-mul_right, pow-le-pow_right, pow-suc}
pub use Rattle.std.proofs.Math.Seq.{drop-cons, take-add}
pub use Rattle.std.proofs.lemmas.Bool.{both_ways, cases_Bool, cases_eq, cases_lt, eq-eqb, false≢true, le-leb, le-ltb, leb-true, lt-leb, lt-ltb, ltb-false, ltb-true, ne_eqb}
pub use Rattle.std.proofs.lemmas.Bool.Decides.{nat_tests}
pub use Rattle.std.proofs.lemmas.Grind.{get_or-set_at}
pub use Rattle.std.proofs.lemmas.Simd.{map-map}
pub use Rattle.std.proofs.lemmas.List.{append-nil, append_assoc, drop-drop, drop-take, drop_all, drop_more, get_or-append_right, get_or-drop, get_or-map, get_or-replicate, get_or-set_other, get_or-set_same, get_or-take, get_or_append_left, get_or_at, get_or_default, length-append, length-drop, length-map, length-replicate, length-set, length-take, map-append, map-id, nil_from_length, same_lists, take-append-drop, take-map, take_all, take_more}
pub use Rattle.std.proofs.lemmas.List.Elements.{All-append, All-cons, All-drop, All-filter, All-push, All-same, All-take, filter-append}
pub use Rattle.std.proofs.lemmas.List.FromFn.{get_or-map-range_with_len, get_or-range_with_len, length-map-range_with_len, length-range_with_len, sum_by-map-range_with_len_more, take-map-range_with_len}
pub use Rattle.std.proofs.lemmas.List.Sorted.{IsNonDecreasingBy-insert, IsPermutation-cons, IsPermutation-filter_both, IsPermutation-insert, IsPermutation-refl, IsPermutation-trans, length_permutation, sum_by-IsPermutation}
pub use Rattle.std.proofs.lemmas.List.Sums.{count_by-le-length, count_by_more_no, count_by_more_yes, length-filter, prefix_len-le-length, prefix_len_passes, prefix_len_stops, sum_by-append, sum_by-cons, sum_by-le-sum_by, sum_by_more}
pub use Rattle.std.proofs.lemmas.Nat.{and_mask, div-add-mod', mod-pow-add, mod_low, one_shl, pow-add, pow_pos, row_fits}
pub use Rattle.std.proofs.lemmas.Nat.Bits.{bit_at-lt, bit_at_cat_low, shr_and_one}
pub use Rattle.std.proofs.lemmas.Option.{get_or_from_slice_get, slice_get-get_or, slice_get_past, slice_get_within, unwrap_or-slice_get}
pub use Rattle.std.proofs.lemmas.Result.{IfOk-weaker}
pub use Rattle.std.specs.Int.{bit_at}
pub use Rattle.std.specs.List.{AllZip, count_by, each_same, insert, prefix_len, range_with_len, sum_by}
pub use Rattle.std.specs.List.Sorted.{IsNonDecreasing, IsPermutation}
pub use Rattle.std.specs.Prelude.{All, Any, Contains, IfOk, IfSome, IsErr, IsSome, bit_and, filter, if◌then◌else◌, option_map, slice_index, slice_range, ◌↔◌}
pub use Rattle.vers_bits.proofs.PublicLaws.{any_default, bit_at-number, bit_value_le, bit_value_test, byte_value, count_both, count_le, count_more_no, count_more_yes, count_near, count_none, count_past, count_up, find_is, last_passing_is, length-low_bits, limb_gathered, none_passing, number-drop, number-low_bits, number-lt, number_below, passes_first, select_holds, test_bit_value}
pub use Rattle.vers_bits.specs.Bits.{bit_value, is_bit, low_bits, number, part, select}
unfoldable pub use Rattle.vers_bits.specs.Bits.{count}
pub use Rattle.vers_rank.proofs.PublicLaws.{adds_times, changed_on, each_at}
pub use Rattle.vers_rank.specs.Queries.{index_size, rank_reads, select_reads, superblock_count}
pub use Rattle.vers_tally.proofs.PublicLaws.{adds_nothing, adds_then, adds_weaker}
pub use Rattle.vers_tally.specs.Reads.{AddsAtMost, IsWithin, Reads, times}
pub use Rattle.vers_wavelet.specs.Batches.{Become}
pub use Rattle.vers_wavelet.specs.Makers.{AllHaveLength, digit}
unfoldable pub use Rattle.vers_wavelet.specs.Makers.{levels_of, low_symbols, packed_symbols, sorted_by, symbol_levels}
pub use Rattle.vers_wavelet.specs.Symbols.{IsKth, IsPredecessor, IsSuccessor, Symbols, by_size, digit_list, gathered, in_bits, ordered, placed}
unfoldable pub use Rattle.vers_wavelet.specs.Symbols.{as_word, greatest_up_to, kth_by_size, least_from, occurrences, range_elements, reversed_digits}
pub use Rattle.vers_wavelet.specs.inside.Batches.{Changed, HasNumber, HasPosition, IsClimbing, asked, no_query}
pub use Rattle.vers_wavelet.specs.inside.Counts.{IsKthInRange, count_positions}
unfoldable pub use Rattle.vers_wavelet.specs.inside.Counts.{count_below, count_equal, kth_symbol}
pub use Rattle.vers_wavelet.specs.inside.Levels.{AreLevels, start}
unfoldable pub use Rattle.vers_wavelet.specs.inside.Levels.{final_position, next, value, values}
pub use Rattle.vers_wavelet.specs.inside.Makers.{AreClassStarts, AreNextStarts, HasWritten, Splits}
unfoldable pub use Rattle.vers_wavelet.specs.inside.Makers.{class_position, count_class, level_order, prefix}
pub use Rattle.vers_wavelet.specs.inside.Nearest.{HasBeside, IsTrail, nearest}
pub use Rattle.vers_wavelet.specs.inside.Walks.{HasClimbed, HasRoom, LeadsTo, Narrowed, ReducesKth}
pub use Rattle.vers_wavelet.specs.inside.Ways.{IsNode, IsWay}
pub use mathlib.Core.Bool.{beq}
pub use mir.Val.{bool_byte}
