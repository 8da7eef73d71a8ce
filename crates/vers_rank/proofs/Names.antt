-- The names of specs/ and of other crates that many proofs use.
pub use Rattle.std.proofs.Common.{Bool, List, None, Some, [], add_comm, ap, arith, bytes_eq, cond, drop, eqb, false, filter, get_or, inl, inr, leb, length, ltb, map, max, min, ne_eqb, not, pow_mono, refl, replicate, rules, set, slice_get, slice_index_or, subst, suc, sym, take, true, w16, w64, zero, zero-le, ℕ, ◌%◌, ◌&&◌, ◌*◌, ◌++◌, ◌+◌, ◌-◌, ◌/◌, ◌<◌, ◌^◌, ◌||◌, ◌∙◌, ◌∷◌, ◌≡◌, ◌≢◌, ◌≤◌, ◌⊎◌}
pub use Rattle.std.proofs.lemmas.Bool.{agree_below, agree_below_at, and_parts, cases_Bool, cases_eq, cases_lt, eqb-true, le-leb, leb-false, leb-true, lt-ltb, ltb-true}
pub use Rattle.std.proofs.lemmas.List.{drop-drop, drop_all, drop_more, get_or-set_other, get_or-set_same, get_or_append_left, get_or_push, length-map, length-set, length-take, length_push, map-id, same_lists}
pub use Rattle.std.proofs.lemmas.Nat.{and_block, and_le_l, and_le_r, and_mask, mod-mul-add, mod-pow-add, mod_below, one_shl, ones-le, ones_cat, pow_below, pow_pos, shr-shr, shr_split}
pub use Rattle.std.proofs.lemmas.Nat.Bits.{bit_at-lt, bit_at-pow_other, bit_at-pow_same, bit_at-suc, bit_at-trailing_zeros, bit_at-zero, bit_at_above, bit_at_and, bit_at_cat_low, bit_at_mask_below, bit_at_mask_inside, bit_at_not, bit_at_ones, bit_at_ones_above, ones_shl, ones_shr, shr_and_one}
pub use Rattle.std.proofs.lemmas.Simd.{get_or-chunk, get_or-put_chunk_at, get_or-put_chunk_below, get_or-replicate, get_or-zip2, length-chunk, length-put_chunk, length-zip2, mask_l-mod, ones-mask_l, tops_compared, zip2_splat_left}
pub use Rattle.std.specs.Int.{bit_at, bit_not, trailing_zeros}
pub use Rattle.std.specs.List.{All, range_with_len}
pub use Rattle.std.specs.Prelude.{bit_and, count_by, count_ones}
pub use Rattle.vers_bits.proofs.PublicLaws.{IsPosition, any_default, bit_item, count_at_select, count_both, count_le, count_le_all, count_limb, count_limb_whole, count_more_no, count_more_yes, count_near, count_none, count_past, count_up, goes_first, highest_bit, length-bits, length-positions, limb_bit, number-lt, select_at, select_below, select_holds, select_is_position, select_not_below, select_past, select_up, value_none, value_one, yields_first}
pub use Rattle.vers_bits.specs.Bits.{bit_value, block_count, count, is_bit, limb_count, number, positions}
unfoldable pub use Rattle.vers_bits.specs.Bits.{limb, part_number, select}
pub use Rattle.vers_rank.specs.Queries.{index_size, select_reads, superblock_count}
unfoldable pub use Rattle.vers_rank.specs.Queries.{part_number_or_zero}
pub use Rattle.vers_rank.specs.inside.Batches.{IsIn, StandsFor, number_of, superblock_reads}
pub use Rattle.vers_rank.specs.inside.Index.{AreEntries, AreFirstSamples, IsAmongLimbs, AreLimbsOf, IsIndexed, IsLimbWith, IsSample, held_before, held_of}
unfoldable pub use Rattle.vers_rank.specs.inside.Index.{held, held_in}
pub use Rattle.vers_rank.specs.inside.Offsets.{last_first, ones_below}
pub use Rattle.vers_rank.specs.inside.Walks.{IsChunkWalkOf, IsMarked, IsReading, IsReadingBack, chunk_positions_left, chunks_unread, marked}
unfoldable pub use Rattle.vers_rank.specs.inside.Walks.{positions_from}
pub use Rattle.vers_tally.proofs.PublicLaws.{adds_then, adds_weaker, digits_halved, digits_up, within_itself}
pub use Rattle.vers_tally.specs.Reads.{AddsAtMost, IsWithin, Reads, digits, no_reads, one_more, only_block_entries, only_data_words, only_rank_calls, only_superblock_entries, plus, times}
pub use lib.Lanes.{chunk, mask_l, put_chunk, zip2}
unfoldable pub use lib.Count.{ones}
pub use Rattle.vers_rank.specs.Walks.{chunk_reads}
pub use Rattle.vers_rank.specs.Batches.{Changed}
pub use Rattle.vers_rank.specs.declared.fast_rs_vec.reader.Reader.{Reader}
pub use Rattle.std.specs.Int.Count.{count_leading_zeros}
pub use Rattle.vers_bits.specs.Equality.{same_bits-Decides}
