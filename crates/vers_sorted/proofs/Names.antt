-- The names of specs/ and of other crates that many proofs use.
pub use Rattle.std.proofs.Common.{Bool, List, None, Option, Some, [], add-one, ap, append_assoc, arith, below_more, cond, drop, eqb, false, get_or, inl, inr, length, max, min, nat_le, nat_lt, not, refl, rules, slice_get, subst, suc, sym, take, true, unwrap_or, zero, ℕ, ◌%◌, ◌*◌, ◌++◌, ◌+◌, ◌-◌, ◌/◌, ◌<◌, ◌==◌, ◌^◌, ◌∙◌, ◌∷◌, ◌≡◌, ◌≢◌, ◌≤◌, ◌⊎◌}
pub use Rattle.std.proofs.Math.ListN.{replicate, set}
pub use Rattle.std.proofs.Math.Nat.{div-le_of_le-mul, mod-eq_of_lt, mul-le-mul_left, mul-mod_left, mul_comm, pow-le-pow_right, zero-div}
pub use Rattle.std.proofs.lemmas.Bool.{and_parts, cases_Bool, cases_lt, eq-eqb, eqb-true, le-leb, leb-true, lt-leb, lt-ltb, ltb-true, ne_eqb}
pub use Rattle.std.proofs.lemmas.Bool.Decides.{nat_tests}
pub use Rattle.std.proofs.lemmas.Grind.{flat_map-append, same_number_lists}
pub use Rattle.std.proofs.lemmas.List.{append-nil, drop-drop, drop_all, drop-take, get_or-drop, get_or-map, get_or-replicate, get_or-set_other, get_or-set_same, get_or-take, get_or_append_left, get_or_default, get_or_past, length-append, length-drop, length-map, length-replicate, length-set, length-take, map-append, map-id, same_lists, take_all, take_more}
pub use Rattle.std.proofs.lemmas.List.FromFn.{get_or-map-range_with_len, length-map-range_with_len, map-range_with_len_more}
pub use Rattle.std.proofs.lemmas.List.Sorted.{IsNonDecreasingBy-drop, IsNonDecreasingBy-from_all_adjacent, IsNonDecreasingBy-take}
pub use Rattle.std.proofs.lemmas.List.Sums.{AllPass-from_list_all, count_by-le-length, list_all-from_AllPass, sum_by-le-sum_by}
pub use Rattle.std.proofs.lemmas.Nat.{and_mask, div-mul-add, leading_length, mod-mul-add, mod-pow-add, mod_below, mod_low, one_shl, or_lt, or_shifted, pow-add, pow_pos, shl-shr, shl_below, shl_whole, shr-shr, shr_below}
pub use Rattle.std.proofs.lemmas.Nat.Bits.{bit_at-trailing_ones, bit_at-trailing_zeros, bit_at_not}
pub use Rattle.std.proofs.lemmas.Option.{cond_some, get_or_from_slice_get, slice_get-get_or, slice_get_past, slice_get_within}
pub use Rattle.std.specs.Int.{bit_at, bit_not, trailing_ones, trailing_zeros}
pub use Rattle.std.specs.Int.Count.{count_leading_zeros, trailing_of_zero}
pub use Rattle.std.specs.List.{list_all, range_with_len}
pub use Rattle.std.specs.List.Sorted.{IsNonDecreasing, IsStrictlyIncreasing}
pub use Rattle.std.specs.Prelude.{All, IsTrue, bit_and, bit_or, if◌then◌else◌, map, option_and_then, slice_index, slice_index_or, ◌↔◌}
pub use Rattle.vers_bits.proofs.PublicLaws.{IsPosition, bit_at-number, count_at_select, count_both, count_le, count_more_no, count_more_yes, count_none, count_past, count_up, element_in_pack, find_is, highest_bit, last_passing_is, length-low_bits, length-packed, length-positions, limb_bit, low_bits-add, low_bits_of_rest, none_passing, number-drop, number-low_bits, number-lt, part_bit, passes_first, select_at, select_below, select_is_position, select_not_below, select_past, select_up, value_none, value_one}
pub use Rattle.vers_bits.specs.Bits.{bit_value, count, is_bit, limb, limb_count, number, pack, positions}
unfoldable pub use Rattle.vers_bits.specs.Bits.{low_bits, select}
pub use Rattle.vers_bits.specs.Walk.{TakesFirst}
unfoldable pub use Rattle.vers_bits.specs.Walk.{items_in}
pub use Rattle.vers_rank.proofs.PublicLaws.{adds_times, changed_all, changed_on}
pub use Rattle.vers_rank.specs.Batches.{Changed}
pub use Rattle.vers_rank.specs.Queries.{index_size}
unfoldable pub use Rattle.vers_rank.specs.Queries.{part_number_or_zero}
pub use Rattle.vers_sorted.specs.Layout.{ArePartsOf, clog, first_of, heap_size_of, high_position, high_count, last_of, low_count, element, element_reads, search_reads}
unfoldable pub use Rattle.vers_sorted.specs.Layout.{high_length, high_of, high_parts, low_of, low_parts, low_width, elements, width}
pub use Rattle.vers_sorted.specs.Ones.{AreMarked, AreSparse}
unfoldable pub use Rattle.vers_sorted.specs.Ones.{ones_at}
pub use Rattle.vers_sorted.specs.Sorted.{each_next, order_of}
unfoldable pub use Rattle.vers_sorted.specs.Sorted.{below, delta, greatest_not_above, is_element, least_not_below}
pub use Rattle.vers_sorted.specs.declared.elias_fano.search.Bucket.{Bucket}
pub use Rattle.vers_sorted.specs.inside.Begun.{IsBegun, IsInside}
pub use Rattle.vers_sorted.specs.inside.Buckets.{IsBetween, IsBucket}
pub use Rattle.vers_sorted.specs.inside.Parts.{HoldHigh, HoldLow, IsPacked, IsStart, reads}
unfoldable pub use Rattle.vers_sorted.specs.inside.Parts.{AreHighParts, first_high_parts, first_low_parts}
pub use Rattle.vers_tally.proofs.PublicLaws.{adds_then, adds_weaker, clog_is_least, clog_least, clog_most, digits-le, digits_half, digits_halved, digits_is, digits_up}
pub use Rattle.vers_tally.specs.Reads.{AddsAtMost, IsWithin, Reads, digits, only_low_parts, plus, times}
pub use mir.Syntax.{w64}
