-- The names of specs/ and of other crates that many proofs use.
pub use Rattle.std.proofs.Common.{Bool, eqb, List, [], ap, append_assoc, arith, below_more, drop, false, get_or, get_or-set_other, get_or-set_same, inl, inr, length, min, pow-add, refl, rules, subst, suc, sym, take, true, vec_capacity, vec_len, zero, ℕ, ◌%◌, ◌&&◌, ◌*◌, ◌++◌, ◌+◌, ◌-◌, ◌/◌, ◌<◌, ◌^◌, ◌∙◌, ◌∷◌, ◌≡◌, ◌≢◌, ◌≤◌}
pub use Rattle.std.proofs.KnownBytes.{Appends-trans, Consumes-trans}
pub use Rattle.std.proofs.Math.ListN.{set}
pub use Rattle.std.proofs.Math.Nat.{div-mul-le_self, le-mul_of_pos_right, lt_of_mul-lt-mul_right, mod-eq-sub-div-mul, mod-eq_of_lt, mul-div_cancel, mul-le-mul_left, mul-le-mul_right, mul-mod_left, pow-le-pow_right}
pub use Rattle.std.proofs.Math.Seq.{take-add}
pub use Rattle.std.proofs.lemmas.Bool.Decides.{nat_tests}
pub use Rattle.std.proofs.lemmas.Bool.{cases_Bool, ne_eqb, and_from, and_parts, cases_eq, cases_lt, eq-eqb, eqb-true, le-leb, leb-true}
pub use Rattle.std.proofs.lemmas.Grind.{flat_map-append, fold-append}
pub use Rattle.std.proofs.lemmas.List.Elements.{All-get_or, All-map}
pub use Rattle.std.proofs.lemmas.List.{append-nil, drop-drop, drop-map, drop-take, drop_at, flat_map_more, get_or-append_right, get_or-drop, get_or-map, get_or-take, get_or_append_left, get_or_default, get_or_past, get_or_push, length-append, length-drop, length-map, length-set, length-take, length-take-le, map-set, nil_from_length, places, same_from_push, same_lists, take-append-drop, take-map, take-take, take_all, take_at, take_more, take_rest}
pub use Rattle.std.proofs.lemmas.Nat.{from_le_bytes-to_le_bytes_8, le_bytes_8, mod_below, mul-mod_first, mul-mod_second, or_lt, or_shifted, pow_pos, shr_le, xor_comm, xor_lt}
pub use Rattle.std.proofs.lemmas.Option.{slice_get-get_or, slice_get_past}
pub use Rattle.std.proofs.lemmas.Result.{IfErr-weaker, IfOk-weaker, on_ok_weaker}
pub use Rattle.std.specs.Int.{bit_at, from_le_bytes, rotate_left, w64}
pub use Rattle.std.specs.Io.KnownBytes.{Appends, Consumes, IsAtEnd, prepend_known}
pub use Rattle.std.specs.List.Sorted.{IsNonDecreasing, IsStrictlyIncreasing}
pub use Rattle.std.specs.Prelude.{All, Err, IfOk, IfSome, None, Ok, Option, Result, Some, bit_or, bit_xor, fold, if◌then◌else◌, map, nat_le, slice_get, slice_index, unwrap_or, ◌⊎◌}
pub use Rattle.std.specs.Simd.{first_chunks}
pub use Rattle.vers_bits.proofs.PublicLaws.{any_default, count_at_select, element_in_pack, equal_limbs, get_or-limbs, length-limbs, length-low_bits, length-packed, length-positions, low_bits-add, low_bits_of_part, number-drop, number-low_bits, number-take, number_below, select_past, select_up}
pub use Rattle.vers_bits.specs.Bits.{count, limb_count, limbs, low_bits, number, pack, part}
unfoldable pub use Rattle.vers_bits.specs.Bits.{limb}
pub use Rattle.vers_saved.specs.Faults.{are_of_sparse, at_version, count_in, first_count, has_first, in_steps, packed_kind, words_in, version_said, fault_of, words_said, rows_of, row_bits, row_padded, said_tests, words_for, body_tests, first_failing, head_tests, in_order, item_bits, ordered_words, stands, takes_count, takes_width, tests_of, words_among}
unfoldable pub use Rattle.vers_saved.specs.Faults.{are_of_list, version_fault, is_padded, is_summed, row_words}
pub use Rattle.vers_saved.specs.Format.{bits_in, bytes_of, head, level_words, posting_words, position_words, decoded_high, decoded_low, decoded_span, saved_size, sorted_words, sparse_words}
unfoldable pub use Rattle.vers_saved.specs.Format.{bytes_word, check_sum, mix, decoded_elements, saved, with_sum, word_bytes, words_of}
pub use Rattle.vers_saved.specs.Kinds.{AreWords, ArePadded, EndsPadded, IsWhole, may_be_saved, tree_kind}
pub use Rattle.vers_saved.specs.Streams.{IsRefused, IsRefusedAs}
pub use Rattle.vers_saved.specs.declared.TheConstants.{FACTOR, LEVELS_VERSION, PARTS_VERSION, MAGIC, START, VERSION}
pub use Rattle.vers_saved.specs.declared.fault.LoadError.TheVariants.{BadLength, Memory, Read, TooShort}
pub use Rattle.vers_saved.specs.declared.fault.LoadError.{LoadError}
pub use Rattle.vers_saved.specs.declared.kind.Kind.{Kind}
pub use Rattle.vers_saved.specs.declared.kind.TheConstants.{BIT_LISTS, BLOCK_VALUES, GREATEST_WORDS, PACKED_SYMBOLS, POSTING_LISTS, SORTED_LISTS, SPARSE_LISTS, SYMBOL_LISTS, TABLE_VALUES}
pub use Rattle.vers_sorted.proofs.PublicLaws.{each_next-ascending, each_next-rising}
pub use Rattle.vers_sorted.specs.Sorted.{each_next}
unfoldable pub use Rattle.vers_wavelet.specs.Makers.{low_symbols, packed_symbols}
