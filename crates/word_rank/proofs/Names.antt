-- The names of specs/ and of other crates that many proofs use.
pub use Rattle.std.proofs.Common.{Bool, List, [], ap, arith, eqb, get_or, length, min, refl, sym, true, false, ℕ, ◌%◌, ◌*◌, ◌++◌, ◌+◌, ◌-◌, ◌/◌, ◌<◌, ◌^◌, ◌∙◌, ◌∷◌, ◌≡◌, ◌≤◌, zero-le}
pub use Rattle.std.proofs.lemmas.Bool.{cases_Bool, cases_lt}
pub use Rattle.std.proofs.lemmas.List.{get_or_append_left, get_or_push, length_push}
pub use Rattle.std.proofs.lemmas.Nat.{and_mask, one_shl}
pub use Rattle.std.proofs.lemmas.Nat.Bits.{shr_and_one}
pub use Rattle.std.specs.Prelude.{bit_and, count_ones}
pub use Rattle.vers_bits.proofs.PublicLaws.{count_le, count_le_all, count_limb, count_limb_whole, count_more_no, count_more_yes, count_near, count_none, count_past, count_up, limb_bit}
pub use Rattle.vers_bits.specs.Bits.{block_count, count, limb_count}
unfoldable pub use Rattle.vers_bits.specs.Bits.{limb}
pub use Rattle.word_rank.specs.Ranks.{word_rank_size}
pub use Rattle.word_rank.specs.inside.Counts.{AreCounts, HasCounts}
