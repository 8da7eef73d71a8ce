-- The names of specs/ and of other crates that many proofs use.
pub use Rattle.std.proofs.Common.{Bool, List, Some, [], ap, arith, bit_and, bit_or, false, get_or, inl, inr, leb, length, min, refl, rules, subst, suc, sym, true, zero, ℕ, ◌%◌, ◌*◌, ◌++◌, ◌+◌, ◌-◌, ◌/◌, ◌<◌, ◌^◌, ◌∙◌, ◌∷◌, ◌≡◌, ◌≢◌, ◌≤◌}
pub use Rattle.std.proofs.Math.Nat.{mul-le-mul_left, pow-le-pow_right, pow-suc}
pub use Rattle.std.proofs.lemmas.Bool.{cases_lt, cond-false, cond-true, le-leb, lt-leb}
pub use Rattle.std.proofs.lemmas.List.{get_or_append_left, get_or_push, get_or_read, length_push}
pub use Rattle.std.proofs.lemmas.Nat.{and_le_l, div_below, leading_top, one_shl, pow_pos, shl_below, shr-shr}
pub use Rattle.std.proofs.lemmas.Nat.Bits.{bit_at-lt, bit_at-pow_other, bit_at-pow_same, bit_at-trailing_zeros, bit_at-zero, bit_at_above, bit_at_and, bit_at_cat_high, bit_at_cat_low, bit_at_ones, bit_at_ones_above, bit_at_or, bit_at_set_other, bit_at_set_same, ones_shr, same_from_bits}
pub use Rattle.std.specs.Int.{bit_at, trailing_zeros, w128, w64}
pub use Rattle.std.specs.Int.Count.{count_leading_zeros}
pub use Rattle.std.specs.List.{find, list_all, range_with_len}
pub use Rattle.vers_rmq.specs.Layout.{binary_heap_size, clog}
pub use Rattle.vers_rmq.specs.Minima.{IsFirstLeast}
unfoldable pub use Rattle.vers_rmq.specs.Minima.{first_least_of, is_least, least_position, lesser}
pub use Rattle.vers_rmq.specs.declared.rmq.least.PlacedItem.{PlacedItem}
pub use Rattle.vers_rmq.specs.inside.Blocks.{AreAllBlocks, AreBlocks, IsBlock, block_end, no_masks}
pub use Rattle.vers_rmq.specs.inside.Candidates.{IsLeastItem, lesser_item}
pub use Rattle.vers_rmq.specs.inside.Masks.{AddsOne, AreMasks, IsFirstSet, IsLastSet, IsPrefixMask, IsSuffixMask, PrefixUpTo, SuffixFrom, part_end}
pub use Rattle.vers_tally.proofs.PublicLaws.{clog_is, clog_up, digits-le, pow_next}
pub use Rattle.vers_tally.specs.Reads.{AddsAtMost, only_items}
