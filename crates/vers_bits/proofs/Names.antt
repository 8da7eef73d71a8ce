-- The names of specs/ and of other crates that many proofs use.
pub use Rattle.std.proofs.Common.{Bool, Err, Fits, List, None, Option, Some, [], add-one, ap, append_assoc, ap₂, arith, cond, drop, eqb, false, get_or, inl, inr, length, ltb, map, max, min, not, refl, replicate, reverse, rules, set, slice_get, subst, suc, sym, take, true, true≢false, w64, zero, ℕ, ◌%◌, ◌&&◌, ◌*◌, ◌++◌, ◌+◌, ◌-◌, ◌/◌, ◌<◌, ◌^◌, ◌||◌, ◌∙◌, ◌∷◌, ◌≡◌, ◌≢◌, ◌≤◌}
pub use Rattle.std.proofs.Math.Nat.{mod-eq_of_lt, mul-add-mod_self_right, mul-div_cancel, mul-mod_left, mul_assoc, mul_comm, pow-le-pow_right, pow-suc}
pub use Rattle.std.proofs.Math.Seq.{drop-cons, take-add, take-length}
pub use Rattle.std.proofs.lemmas.Bool.{agree_below_at, cases_Bool, cases_eq, cases_lt, eq-eqb, eqb-true, false_from_ne_true, false≢true, le-ltb, lt-ltb, ne_eqb}
pub use Rattle.std.proofs.lemmas.Bool.Decides.{nat_tests}
pub use Rattle.std.proofs.lemmas.Grind.{common_steps, get_or_default_zero}
pub use Rattle.std.proofs.lemmas.List.{append-nil, drop-drop, drop-take, drop_all, drop_at, ext_get_or, flat_map_more, get_or-append_right, get_or-drop, get_or-replicate, get_or-reverse, get_or-set_other, get_or-set_same, get_or-take, get_or_append_left, get_or_default, get_or_past, get_or_push, get_or_read, length-append, length-drop, length-map, length-replicate, length-reverse, length-set, length-take, length_push, map-append, map-id, reverse-append, reverse-reverse, same_lists, take-append-drop, take-take, take_all, take_at, take_more}
pub use Rattle.std.proofs.lemmas.List.FromFn.{fill_by_all, filter_of_map_range_with_len_more, get_or-map-range_with_len, length-map-range_with_len, map-range_with_len_more, sum_by-map-range_with_len_more, take-map-range_with_len}
pub use Rattle.std.proofs.lemmas.List.Sums.{count_by-le-length, count_by_more_no, count_by_more_yes, sum_by-append, sum_by-cons, sum_by-drop_more, sum_by-le, sum_by-take-drop, sum_by_more_le}
pub use Rattle.std.proofs.lemmas.Nat.{and_mask, div-mul-add, div_below, le-div, leading_top, mod-mul-add, mod-pow-add, mod_below, mul-mod_first, one_shl, ones-le, or_comm, or_shifted, pow-add, pow_pos, row_fits, shl_whole, shr-shr}
pub use Rattle.std.proofs.lemmas.Nat.Bits.{bit_at-lt, bit_at-pow_other, bit_at-pow_same, bit_at-suc, bit_at-zero, bit_at_above, bit_at_and, bit_at_cat_high, bit_at_cat_low, bit_at_clear_other, bit_at_clear_same, bit_at_lowest, bit_at_ones, bit_at_or, bit_at_set_other, bit_at_set_same, bit_at_xor, ones_shr, same_from_bits, same_from_bits_below, shr_and_one}
pub use Rattle.std.proofs.lemmas.Option.{get_or_from_slice_get, slice_get-get_or, slice_get-map, slice_get_cases, slice_get_past, slice_get_within}
pub use Rattle.std.proofs.lemmas.Result.{IfOk-equal, err_from_is_err_and, on_ok_weaker}
pub use Rattle.std.proofs.lemmas.Slice.Eq.{bytes_eq-Decides}
pub use Rattle.std.specs.Bool.{Decides}
pub use Rattle.std.specs.Cmp.Lexicographic.{pointwise}
pub use Rattle.std.specs.Int.{bit_at, bit_not}
pub use Rattle.std.specs.Int.Bits.{or_shifted_r}
pub use Rattle.std.specs.Int.Count.{count_leading_zeros}
pub use Rattle.std.specs.Iterator.{IsFinite, MakesProgress, YieldsFirst, YieldsLast, item_count}
pub use Rattle.std.specs.List.{AllPairs, count_by, fold, last_or, range_with_len}
pub use Rattle.std.specs.Prelude.{bit_and, bit_or, bit_xor, count_ones, filter, find, flat_map, nat_lt, option_map, sum_by}
pub use Rattle.std.specs.Simd.{first_chunks}
pub use Rattle.vers_bits.specs.Bits.{bit_value, is_bit, limb_count, number, pack}
unfoldable pub use Rattle.vers_bits.specs.Bits.{count, limb, limbs, low_bits, masked, part_number, position_after, position_before, positions, select}
pub use Rattle.vers_bits.specs.Equality.{same_bits, same_bits-Decides}
unfoldable pub use Rattle.vers_bits.specs.Equality.{hash_input}
pub use Rattle.vers_bits.specs.Masks.{AnswersAs, xor, zip_bits}
pub use Rattle.vers_bits.specs.Walk.{NextBackIsNthBackOfZero, NextIsNthOfZero, PassesEachOnce, StaysEnded, Step, TakesFirst, TakesLast, TakesNth, TakesNthBack, nth_passes}
unfoldable pub use Rattle.vers_bits.specs.Walk.{items_in}
pub use Rattle.vers_bits.specs.declared.bit_vec.fault.GrowError.TheVariants.{TooLong}
pub use Rattle.vers_bits.specs.declared.walk.Span.{Span}
pub use Rattle.vers_bits.specs.inside.Words.{AddsBit, CutsTo, Holds, HoldsBits, Puts, word_bit}
unfoldable pub use Rattle.vers_bits.specs.inside.Words.{word_bits}
pub use mir.Val.{bool_byte}
